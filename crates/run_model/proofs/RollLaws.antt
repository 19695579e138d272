-- The actions of a run are those of its plan, actions with a plan carry it out, and where nothing rolls a run has the plan's needs.
use Rattle.std.proofs.Common.{◌≡◌, ℕ, zero, suc, Bool, true, false, ◌&&◌, ◌||◌, List, [], ◌∷◌, map, Option, Some, None, slice_get, refl, sym, ap, ◌∙◌, subst, inl, inr}
use Rattle.std.specs.List.{list_any}
use Rattle.std.specs.Option.{option_map_or}
use Rattle.std.specs.Prelude.{filter, find, option_and_then}
use Rattle.std.specs.Str.{bytes_eq}
use Rattle.engine_types.specs.declared.Action.{Action}
use Rattle.engine_types.specs.declared.ActionKind.{ActionKind}
use Rattle.engine_types.specs.declared.ActionKind.TheVariants.{StopContainer, StopKept, StartSlot}
use Rattle.engine_types.specs.declared.Declared.{Declared}
use Rattle.engine_types.specs.declared.DeclaredService.{DeclaredService}
use Rattle.engine_types.specs.declared.Listed.{Listed}
use Rattle.engine_types.specs.declared.Slot.{Slot}
use Rattle.run_model.specs.EngineRules.{Among, is_live}
use Rattle.run_model.specs.Labels.{is_of_slot}
use Rattle.run_model.specs.Numbers.{places}
use Rattle.run_model.specs.Plans.{Basis, CarriesOut, HasPlan, is_needed_by, is_wanted, kind_of, needed_by, needs_of, planned, planned_kinds, possible, slot_at}
use Rattle.run_model.specs.Rolling.{awaited_by, is_added, is_awaited, is_held_back, is_rolled, roll_of, run_actions, waits_for}
use Rattle.run_model.proofs.DistinctLists.{among_filter, among_places, at_place, distinct_filter, from_filter, from_place, same_place}
use Rattle.run_model.proofs.PlanLaws.{distinct_possible, has_wanted, kind_of_listed, needs_of_listed}

-- the kinds of listed actions
kinds_listed : (ns : ActionKind → List ℕ) (ks : List ActionKind)
    → map (λ (action : Action). action.kind) (map (λ (kind : ActionKind). let action : Action = record { kind = kind; needs = ns kind } in action) ks) ≡ ks
kinds_listed ns [] = refl
kinds_listed ns (k ∷ ks) = ap (λ (rest : List ActionKind). k ∷ rest) (kinds_listed ns ks)

either : (s t : Bool) → s ≡ true → (s || t) ≡ true
either true t e = refl
either false t e = absurd (cc e)

pub has_plan : (basis : Basis) → HasPlan basis (run_actions basis)
has_plan basis = record { kinds = kinds_listed (awaited_by basis ks) ks; needs = needs }
  where
    ks : List ActionKind
    ks = planned_kinds basis

    is_at : (a : ℕ) → kind_of (run_actions basis) a ≡ slice_get ks a
    is_at a = kind_of_listed (awaited_by basis ks) ks a

    needs : (a b : ℕ) (kind other : ActionKind) → kind_of (run_actions basis) a ≡ Some kind → kind_of (run_actions basis) b ≡ Some other
        → is_needed_by basis kind other ≡ true → Among (needs_of (run_actions basis) a) b
    needs a b kind other h k t =
        let there : slice_get ks b ≡ Some other = sym (is_at b) ∙ k in
        let passes : option_map_or (is_awaited basis kind) (slice_get ks b) false ≡ true
        = ap (λ (o : Option ActionKind). option_map_or (is_awaited basis kind) o false) there ∙ either _ (is_added basis kind other) t in
        let n : Among (awaited_by basis ks kind) b = among_filter (λ (c : ℕ). option_map_or (is_awaited basis kind) (slice_get ks c) false) (places ks) b
        passes (among_places ks b other there) in
        subst (λ (xs : List ℕ). Among xs b) (sym (needs_of_listed (awaited_by basis ks) ks a kind (sym (is_at a) ∙ h))) n

-- the kind of an action is that at its place among the kinds
kinds_at : (actions : List Action) (a : ℕ) → kind_of actions a ≡ slice_get (map (λ (action : Action). action.kind) actions) a
kinds_at [] a = refl
kinds_at (action ∷ actions) zero = refl
kinds_at (action ∷ actions) (suc a) = kinds_at actions a

-- actions that have a plan carry it out
pub carries : (basis : Basis) (actions : List Action) → HasPlan basis actions → CarriesOut basis actions
carries basis actions plan = record { wanted = wanted; all = all; once = once; needs = plan.needs }
  where
    is_at : (a : ℕ) → kind_of actions a ≡ slice_get (planned_kinds basis) a
    is_at a = kinds_at actions a ∙ ap (λ (ks : List ActionKind). slice_get ks a) plan.kinds

    wanted : (a : ℕ) (kind : ActionKind) → kind_of actions a ≡ Some kind → is_wanted basis kind ≡ true
    wanted a kind h = (from_filter (is_wanted basis) (possible basis) kind (from_place (planned_kinds basis) a kind (sym (is_at a) ∙ h))).0

    all : (kind : ActionKind) → is_wanted basis kind ≡ true → (a : ℕ) × (kind_of actions a ≡ Some kind)
    all kind h = let r = at_place (planned_kinds basis) kind (among_filter (is_wanted basis) (possible basis) kind h (has_wanted basis kind h)) in (r.0, is_at r.0 ∙ r.1)

    once : (a b : ℕ) (kind : ActionKind) → kind_of actions a ≡ Some kind → kind_of actions b ≡ Some kind → a ≡ b
    once a b kind h k = same_place (planned_kinds basis) a b kind (distinct_filter (is_wanted basis) (possible basis) (distinct_possible basis)) (sym (is_at a) ∙ h) (sym (is_at b) ∙ k)

-- lists that two equal tests filter, and that two equal functions map
same_filter : {X : Type 0} (p q : X → Bool) (xs : List X) → ((x : X) → p x ≡ q x) → filter p xs ≡ filter q xs
same_filter p q [] e = refl
same_filter p q (x ∷ xs) e = rw (e x, same_filter p q xs e) refl

same_map : {X Y : Type 0} (f g : X → Y) (xs : List X) → ((x : X) → f x ≡ g x) → map f xs ≡ map g xs
same_map f g [] e = refl
same_map f g (x ∷ xs) e = rw (e x, same_map f g xs e) refl

none_passes : {X : Type 0} (f : X → Bool) (xs : List X) → ((x : X) → f x ≡ false) → list_any f xs ≡ false
none_passes f [] e = refl
none_passes f (x ∷ xs) e = rw (e x) (none_passes f xs e)

fails_of : {X : Type 0} (f : X → Bool) (o : Option X) → ((x : X) → f x ≡ false) → option_map_or f o false ≡ false
fails_of f None e = refl
fails_of f (Some x) e = e x

never : (t : Bool) → (t && false) ≡ false
never true = refl
never false = refl

or_none : (t : Bool) → (t || false) ≡ t
or_none true = refl
or_none false = refl

-- a service that is found is one of them
found_among : {X : Type 0} (test : X → Bool) (xs : List X) (x : X) → find test xs ≡ Some x → Among xs x
found_among test [] x e = absurd (cc e)
found_among {X} test (y ∷ ys) x e = at (test y) (found_among test ys x) e
  where
    at : (t : Bool) → (find test ys ≡ Some x → Among ys x) → Rattle.std.proofs.Common.cond t (Some y) (find test ys) ≡ Some x → Among (y ∷ ys) x
    at true rest f = let same : y ≡ x = cc f in inl (sym same)
    at false rest f = inr (rest f)

module _ (basis : Basis) (plain : (service : DeclaredService) → Among basis.declared.services service → service.roll ≡ None) where
  -- no slot is rolled
  no_roll : (slot : Slot) → roll_of basis.declared slot ≡ None
  no_roll slot = at (find (λ (service : DeclaredService). bytes_eq service.key slot.service) basis.declared.services) refl
    where
      at : (o : Option DeclaredService) → find (λ (service : DeclaredService). bytes_eq service.key slot.service) basis.declared.services ≡ o
          → option_and_then (λ (service : DeclaredService). service.roll) o ≡ None
      at None e = refl
      at (Some service) e = plain service (found_among (λ (s : DeclaredService). bytes_eq s.key slot.service) basis.declared.services service e)

  not_rolled : (slot : Slot) → is_rolled basis slot ≡ false
  not_rolled slot = rw (no_roll slot) refl

  waits_for_none : (slot other : Slot) → waits_for basis slot other ≡ false
  waits_for_none slot other = rw (no_roll slot) refl

  holds_none_back : (row : Listed) (other : Slot) → is_held_back basis row other ≡ false
  holds_none_back row other =
      rw (none_passes (λ (slot : Slot). is_of_slot basis.declared.project slot row.labels && waits_for basis slot other) basis.declared.slots
      (λ slot. rw (waits_for_none slot other) (never (is_of_slot basis.declared.project slot row.labels)))) (never (is_live row.state))

  adds_none : (kind other : ActionKind) → is_added basis kind other ≡ false
  adds_none (StopContainer c) (StartSlot t) = fails_of _ (slice_get basis.seen.containers c)
      (λ row. fails_of (is_held_back basis row) (slot_at basis.declared t) (holds_none_back row))
  adds_none (StopKept s) (StartSlot t) = fails_of _ (slot_at basis.declared s) (λ slot. fails_of (waits_for basis slot) (slot_at basis.declared t) (waits_for_none slot))
  adds_none (StartSlot s) (StopContainer c) = fails_of _ (slot_at basis.declared s) (λ slot. rw (not_rolled slot) refl)
  adds_none _ _ = refl

  awaits_same : (kind other : ActionKind) → is_awaited basis kind other ≡ is_needed_by basis kind other
  awaits_same kind other = rw (adds_none kind other) (or_none (is_needed_by basis kind other))

  pub unrolled : run_actions basis ≡ planned basis
  unrolled = same_map (λ (kind : ActionKind). let action : Action = record { kind = kind; needs = awaited_by basis ks kind } in action)
      (λ (kind : ActionKind). let action : Action = record { kind = kind; needs = needed_by basis ks kind } in action) ks
      (λ kind. ap (λ (ns : List ℕ). let action : Action = record { kind = kind; needs = ns } in action)
      (same_filter (λ (b : ℕ). option_map_or (is_awaited basis kind) (slice_get ks b) false) (λ (b : ℕ). option_map_or (is_needed_by basis kind) (slice_get ks b) false) (places ks)
      (λ b. same_at kind (slice_get ks b))))
    where
      ks : List ActionKind
      ks = planned_kinds basis

      same_at : (kind : ActionKind) (o : Option ActionKind) → option_map_or (is_awaited basis kind) o false ≡ option_map_or (is_needed_by basis kind) o false
      same_at kind None = refl
      same_at kind (Some other) = awaits_same kind other
