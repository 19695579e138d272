-- Plans of both purposes are orderly.
use Rattle.std.proofs.Common.{◌≡◌, ℕ, ◌+◌, ◌*◌, ◌-◌, ◌<◌, ◌≤◌, Bool, true, ◌||◌, List, [], ◌∷◌, Option, Some, None, slice_get, refl, sym, ap, ◌∙◌, inl, inr, arith}
use Rattle.std.specs.Prelude.{◌&&◌, ◌==◌, unwrap_or}
use Rattle.std.specs.List.{list_any}
use Rattle.std.specs.Option.{option_map_or}
use Rattle.std.specs.Str.{bytes_eq}
use Rattle.std.proofs.lemmas.Bool.{and_parts, eqb-true}
use Rattle.std.proofs.lemmas.Slice.Eq.{bytes_eq-Decides}
use Rattle.engine_types.specs.Labels.{label, service_label}
use Rattle.engine_types.specs.declared.ActionKind.{ActionKind}
use Rattle.engine_types.specs.declared.ActionKind.TheVariants.{MakeVolume, MakeNetwork, StopContainer, RemoveContainer, CreateSlot, ConnectSlot, StopKept, StartSlot, RemoveNetwork, RemoveVolume}
use Rattle.engine_types.specs.declared.Declared.{Declared}
use Rattle.engine_types.specs.declared.Listed.{Listed}
use Rattle.engine_types.specs.declared.Need.{Need}
use Rattle.engine_types.specs.declared.Seen.{Seen}
use Rattle.engine_types.specs.declared.Slot.{Slot}
use Rattle.tree_base.specs.declared.place.Var.{Var}
use Rattle.run_model.specs.EngineRules.{Among}
use Rattle.run_model.specs.Labels.{names_service}
use Rattle.run_model.specs.Plans.{Basis, IsOrderly, asks_restart, basis_of, depends_on, down_aim, is_needed_by, is_wanted, planned, restarts_for, slot_at, slot_needs, up_aim}
use Rattle.run_model.specs.Numbers.{places}
use Rattle.run_model.proofs.DistinctLists.{among_places}
use Rattle.run_model.proofs.PlanLaws.{some_from}
use Rattle.plan_core.specs.Finding.{service_named}
use Rattle.plan_core.specs.Order.{HasNoCycle, PlansAreOrderly}
use Rattle.plan_core.proofs.Orders.{orderly}
use Rattle.plan_core.proofs.Splits.{by_cases}

-- an element of a list that passes
pub any_among : {X : Type 0} (p : X → Bool) (xs : List X) → list_any p xs ≡ true → (x : X) × Among xs x × (p x ≡ true)
any_among p [] e = absurd (cc e)
any_among p (x ∷ xs) e = by_cases (p x)
    (λ t. (x, inl refl, t))
    (λ f. let rest : list_any p xs ≡ true = sym (ap (λ (b : Bool). b || list_any p xs) f) ∙ e in let r = any_among p xs rest in (r.0, inr r.1, r.2))

-- a sum over a list
abbrev pub total : (ℕ → ℕ) → List ℕ → ℕ
total f [] = 0
total f (n ∷ ns) = f n + total f ns

-- each is at most the sum
pub within_total : (f : ℕ → ℕ) (ns : List ℕ) (n : ℕ) → Among ns n → f n ≤ total f ns
within_total f [] n m = absurd m
within_total f (k ∷ ns) n (inl e) = let same : f n ≡ f k = ap f e in omega (arith, same)
within_total f (k ∷ ns) n (inr m) = let h = within_total f ns n m in omega (arith, h)

-- labels that name a service name this one
pub service_is : (service : List ℕ) (labels : List Var) → names_service service labels ≡ true → service_named labels ≡ service
service_is service labels e =
    let r = some_from (bytes_eq service) (label labels service_label) e in
    ap (λ (o : Option (List ℕ)). unwrap_or o []) r.1 ∙ sym ((bytes_eq-Decides service r.0).0 r.2)

module _ (declared : Declared) (seen : Seen) (orphans : Bool) (cycle : HasNoCycle declared) where
  abbrev up : Basis
  up = basis_of declared seen (up_aim orphans)

  abbrev rank_up : ActionKind → ℕ
  rank_up (MakeVolume v) = 0
  rank_up (MakeNetwork n) = 0
  rank_up (StopContainer c) = 0
  rank_up (RemoveContainer c) = 1
  rank_up (CreateSlot s) = 2
  rank_up (ConnectSlot s k) = 3
  rank_up (StopKept s) = 4 + 2 * cycle.rank s
  rank_up (StartSlot s) = 5 + 2 * cycle.rank s
  rank_up (RemoveNetwork n) = 2
  rank_up (RemoveVolume v) = 2

  -- a need that asks for a restart goes to a slot of lesser rank
  sunk : (s t : ℕ) → is_needed_by up (StopKept s) (StartSlot t) ≡ true → cycle.rank t < cycle.rank s
  sunk s t e =
      let slot = some_from (restarts_for declared seen t) (slot_at declared s) e in
      let need = any_among (λ (n : Need). (n.slot == t) && asks_restart declared seen n) slot.0.needs slot.2 in
      let same : need.0.slot ≡ t = eqb-true need.0.slot t (and_parts (need.0.slot == t) _ need.2).0 in
      let falls = cycle.falls s slot.0 need.0 slot.1 need.1 in
      let rank = ap cycle.rank same in omega (arith, falls, rank)

  up_needs : (kind other : ActionKind) → is_needed_by up kind other ≡ true → rank_up other < rank_up kind
  up_needs (StopContainer c) (RemoveContainer d) e = absurd (cc e)
  up_needs (RemoveContainer c) (StopContainer d) e = omega arith
  up_needs (CreateSlot s) (RemoveContainer c) e = omega arith
  up_needs (CreateSlot s) (MakeNetwork n) e = omega arith
  up_needs (CreateSlot s) (MakeVolume v) e = omega arith
  up_needs (ConnectSlot s k) (CreateSlot t) e = omega arith
  up_needs (ConnectSlot s k) (MakeNetwork n) e = omega arith
  up_needs (StopKept s) (StartSlot t) e = let h = sunk s t e in omega (arith, h)
  up_needs (StartSlot s) (CreateSlot t) e = omega arith
  up_needs (StartSlot s) (StopKept t) e = let same : s ≡ t = eqb-true s t e in let h = ap cycle.rank same in omega (arith, h)
  up_needs (StartSlot s) (ConnectSlot t k) e = omega arith
  up_needs (RemoveNetwork n) (RemoveContainer c) e = omega arith
  up_needs (RemoveVolume v) (RemoveContainer c) e = omega arith
  up_needs _ _ e = absurd (cc e)

  pub orderly_up : IsOrderly declared (planned up)
  orderly_up = orderly up (is_needed_by up) rank_up (record { needs = λ kind other w v e. up_needs kind other e; starts = starts })
    where
      starts : (s : ℕ) (need : Need) → is_wanted up (StartSlot s) ≡ true → Among (slot_needs declared (Some (StartSlot s))) need
          → rank_up (StartSlot need.slot) < rank_up (StartSlot s)
      starts s need wanted m = at (slot_at declared s) refl m
        where
          at : (o : Option Slot) → slot_at declared s ≡ o → Among (option_map_or (λ (slot : Slot). slot.needs) o []) need → 5 + 2 * cycle.rank need.slot < 5 + 2 * cycle.rank s
          at None e k = absurd k
          at (Some slot) e k = let h = cycle.falls s slot need e k in omega (arith, h)

module _ (declared : Declared) (seen : Seen) (orphans volumes : Bool) (cycle : HasNoCycle declared) where
  abbrev down : Basis
  down = basis_of declared seen (down_aim orphans volumes)

  -- how high the service of a container stands: higher than those that it depends on
  abbrev height : Listed → ℕ
  height row = cycle.height (service_named row.labels)

  abbrev height_at : ℕ → ℕ
  height_at c = option_map_or height (slice_get seen.containers c) 0

  -- as high as the service of any container
  abbrev top : ℕ
  top = total height_at (places seen.containers)

  abbrev depth_at : ℕ → ℕ
  depth_at c = top - height_at c

  abbrev pub rank_down : ActionKind → ℕ
  rank_down (MakeVolume v) = 0
  rank_down (MakeNetwork n) = 0
  rank_down (StopContainer c) = 2 * depth_at c
  rank_down (RemoveContainer c) = 2 * depth_at c + 1
  rank_down (CreateSlot s) = 2 * top + 2
  rank_down (ConnectSlot s k) = 2 * top + 3
  rank_down (StopKept s) = 2 * top + 4 + 2 * cycle.rank s
  rank_down (StartSlot s) = 2 * top + 5 + 2 * cycle.rank s
  rank_down (RemoveNetwork n) = 2 * top + 2
  rank_down (RemoveVolume v) = 2 * top + 2

  low : (c : ℕ) → depth_at c ≤ top
  low c = omega arith

  below_top : (c : ℕ) (row : Listed) → slice_get seen.containers c ≡ Some row → height_at c ≤ top
  below_top c row e = within_total height_at (places seen.containers) c (among_places seen.containers c row e)

  -- a container's service stands higher than those that it depends on
  higher : (row other : Listed) → depends_on declared row other ≡ true → height other < height row
  higher row other e =
      let service = any_among _ declared.services e in
      let parts = and_parts (names_service service.0.key row.labels) _ service.2 in
      let key = any_among (λ (k : List ℕ). names_service k other.labels) service.0.depends_on parts.1 in
      let sinks = cycle.sinks service.0 key.0 service.1 key.1 in
      let here = ap cycle.height (service_is service.0.key row.labels parts.0) in
      let there = ap cycle.height (service_is key.0 other.labels key.2) in
      omega (arith, sinks, here, there)

  stops : (c d : ℕ) → is_needed_by down (StopContainer c) (RemoveContainer d) ≡ true → depth_at d < depth_at c
  stops c d e =
      let r = some_from _ (slice_get seen.containers c) e in
      let q = some_from _ (slice_get seen.containers d) r.2 in
      let at_c : height_at c ≡ height r.0 = ap (λ (o : Option Listed). option_map_or height o 0) r.1 in
      let at_d : height_at d ≡ height q.0 = ap (λ (o : Option Listed). option_map_or height o 0) q.1 in
      let h = higher q.0 r.0 q.2 in
      let high = below_top d q.0 q.1 in
      omega (arith, at_c, at_d, h, high)

  pub down_needs : (kind other : ActionKind) → is_needed_by down kind other ≡ true → rank_down other < rank_down kind
  down_needs (StopContainer c) (RemoveContainer d) e = let h = stops c d e in omega (arith, h)
  down_needs (RemoveContainer c) (StopContainer d) e = let same : c ≡ d = eqb-true c d e in let h = ap depth_at same in omega (arith, h)
  down_needs (CreateSlot s) (RemoveContainer c) e = let h = low c in omega (arith, h)
  down_needs (CreateSlot s) (MakeNetwork n) e = omega arith
  down_needs (CreateSlot s) (MakeVolume v) e = omega arith
  down_needs (ConnectSlot s k) (CreateSlot t) e = omega arith
  down_needs (ConnectSlot s k) (MakeNetwork n) e = omega arith
  down_needs (StopKept s) (StartSlot t) e = let h = sunk declared seen orphans cycle s t e in omega (arith, h)
  down_needs (StartSlot s) (CreateSlot t) e = omega arith
  down_needs (StartSlot s) (StopKept t) e = let same : s ≡ t = eqb-true s t e in let h = ap cycle.rank same in omega (arith, h)
  down_needs (StartSlot s) (ConnectSlot t k) e = omega arith
  down_needs (RemoveNetwork n) (RemoveContainer c) e = let h = low c in omega (arith, h)
  down_needs (RemoveVolume v) (RemoveContainer c) e = let h = low c in omega (arith, h)
  down_needs _ _ e = absurd (cc e)

  pub orderly_down : IsOrderly declared (planned down)
  orderly_down = orderly down (is_needed_by down) rank_down (record { needs = λ kind other w v e. down_needs kind other e; starts = λ s need wanted m. absurd (cc wanted) })

pub plans_are_orderly : PlansAreOrderly
plans_are_orderly declared seen orphans volumes cycle = (orderly_up declared seen orphans cycle, orderly_down declared seen orphans volumes cycle)
