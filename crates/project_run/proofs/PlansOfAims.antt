-- The plan that is made for a purpose is the plan of the aim: volumes stay at `up`, asked for or not. A run of `down` needs what its
-- plan does.
use Rattle.std.proofs.Common.{◌≡◌, ℕ, Bool, true, false, cond, ◌||◌, List, [], ◌∷◌, map, Option, Some, None, slice_get, refl, ap, ◌∙◌, inl, inr}
use Rattle.std.specs.Option.{option_map_or}
use Rattle.std.specs.Prelude.{filter, length, min, nat_lt, ◌-◌, ◌^◌}
use Rattle.engine_types.specs.declared.Aim.{Aim}
use Rattle.tree_base.specs.Limits.{most_actions}
use Rattle.engine_types.specs.declared.Action.{Action}
use Rattle.engine_types.specs.declared.ActionKind.{ActionKind}
use Rattle.engine_types.specs.declared.ActionKind.TheVariants.{StopContainer, StopKept, StartSlot}
use Rattle.engine_types.specs.declared.Declared.{Declared}
use Rattle.engine_types.specs.declared.Purpose.{Purpose}
use Rattle.engine_types.specs.declared.Seen.{Seen}
use Rattle.run_model.specs.EngineRules.{Among}
use Rattle.run_model.specs.Numbers.{places}
use Rattle.run_model.specs.Plans.{Basis, action_count, basis_of, down_aim, is_needed_by, is_too_long, is_wanted, needed_by, planned, planned_kinds, possible, up_aim}
use Rattle.run_model.specs.Rolling.{awaited_by, is_added, is_awaited, run_actions}
use Rattle.run_model.proofs.DistinctLists.{from_filter, from_place}

module _ (declared : Declared) (seen : Seen) where
  pub down_is : (aim : Aim) → aim.purpose ≡ Purpose.Down → basis_of declared seen (down_aim aim.orphans aim.volumes) ≡ basis_of declared seen aim
  down_is aim is = rw is refl

  kinds_by : (purpose : Purpose) (orphans volumes : Bool) → purpose ≡ Purpose.Up
      → planned_kinds (basis_of declared seen (up_aim orphans)) ≡ planned_kinds (basis_of declared seen (record { purpose = purpose; orphans = orphans; volumes = volumes }))
  kinds_by Purpose.Up orphans volumes is = refl
  kinds_by Purpose.Down orphans volumes is = absurd (cc is)

  rolled_by : (purpose : Purpose) (orphans volumes : Bool) → purpose ≡ Purpose.Up
      → run_actions (basis_of declared seen (up_aim orphans)) ≡ run_actions (basis_of declared seen (record { purpose = purpose; orphans = orphans; volumes = volumes }))
  rolled_by Purpose.Up orphans volumes is = refl
  rolled_by Purpose.Down orphans volumes is = absurd (cc is)

  module _ (aim : Aim) (is : aim.purpose ≡ Purpose.Up) where
    pub up_rolled : run_actions (basis_of declared seen (up_aim aim.orphans)) ≡ run_actions (basis_of declared seen aim)
    up_rolled = rolled_by aim.purpose aim.orphans aim.volumes is

    pub up_length : is_too_long (basis_of declared seen (up_aim aim.orphans)) ≡ is_too_long (basis_of declared seen aim)
    up_length = ap (λ (kinds : List ActionKind). nat_lt most_actions (length kinds)) (kinds_by aim.purpose aim.orphans aim.volumes is)

    pub up_count : action_count (basis_of declared seen (up_aim aim.orphans)) ≡ action_count (basis_of declared seen aim)
    up_count = ap (λ (kinds : List ActionKind). min (length kinds) (2 ^ 64 - 1)) (kinds_by aim.purpose aim.orphans aim.volumes is)

-- tests that agree on a list leave the same of it, and so do functions
filter_among : {X : Type 0} (p q : X → Bool) (xs : List X) → ((x : X) → Among xs x → p x ≡ q x) → filter p xs ≡ filter q xs
filter_among p q [] e = refl
filter_among {X} p q (x ∷ xs) e =
    ap (λ (ys : List X). cond (p x) (x ∷ ys) ys) (filter_among p q xs (λ y m. e y (inr m))) ∙ ap (λ (t : Bool). cond t (x ∷ filter q xs) (filter q xs)) (e x (inl refl))

map_among : {X Y : Type 0} (f g : X → Y) (xs : List X) → ((x : X) → Among xs x → f x ≡ g x) → map f xs ≡ map g xs
map_among f g [] e = refl
map_among {X} {Y} f g (x ∷ xs) e = ap (λ (y : Y). y ∷ map f xs) (e x (inl refl)) ∙ ap (λ (ys : List Y). g x ∷ ys) (map_among f g xs (λ y m. e y (inr m)))

-- a run of `down` needs what its plan does: starts are wanted by `up` alone
module _ (declared : Declared) (seen : Seen) (orphans volumes : Bool) where
  abbrev down : Basis
  down = basis_of declared seen (down_aim orphans volumes)

  abbrev kinds : List ActionKind
  kinds = planned_kinds down

  or_none : (b : Bool) → (b || false) ≡ b
  or_none true = refl
  or_none false = refl

  none_added : (kind other : ActionKind) → is_wanted down kind ≡ true → is_wanted down other ≡ true → is_added down kind other ≡ false
  none_added (StopContainer c) (StartSlot t) w v = absurd (cc v)
  none_added (StopKept s) (StartSlot t) w v = absurd (cc v)
  none_added (StartSlot s) (StopContainer c) w v = absurd (cc w)
  none_added _ _ w v = refl

  wanted : (kind : ActionKind) → Among kinds kind → is_wanted down kind ≡ true
  wanted kind m = (from_filter (is_wanted down) (possible down) kind m).0

  awaits_same : (kind : ActionKind) → Among kinds kind → awaited_by down kinds kind ≡ needed_by down kinds kind
  awaits_same kind m = filter_among (λ (b : ℕ). option_map_or (is_awaited down kind) (slice_get kinds b) false) (λ (b : ℕ). option_map_or (is_needed_by down kind) (slice_get kinds b) false) (places kinds)
      (λ b n. at b (slice_get kinds b) refl)
    where
      at : (b : ℕ) (o : Option ActionKind) → slice_get kinds b ≡ o → option_map_or (is_awaited down kind) o false ≡ option_map_or (is_needed_by down kind) o false
      at b None e = refl
      at b (Some other) e = ap (λ (t : Bool). is_needed_by down kind other || t) (none_added kind other (wanted kind m) (wanted other (from_place kinds b other e))) ∙ or_none (is_needed_by down kind other)

  pub down_unrolled : run_actions down ≡ planned down
  down_unrolled = map_among (λ (kind : ActionKind). let action : Action = record { kind = kind; needs = awaited_by down kinds kind } in action)
      (λ (kind : ActionKind). let action : Action = record { kind = kind; needs = needed_by down kinds kind } in action) kinds
      (λ kind m. ap (λ (needs : List ℕ). let action : Action = record { kind = kind; needs = needs } in action) (awaits_same kind m))
