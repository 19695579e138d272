-- The actions of a plan, with what they are said to need, are orderly where their kinds have a rank that rises along needs and starts.
use Rattle.std.proofs.Common.{◌≡◌, ℕ, ◌<◌, Bool, true, false, cond, List, [], ◌∷◌, length, map, Option, Some, None, slice_get, refl, sym, ap, ◌∙◌, subst, inl, inr, arith}
use Rattle.std.specs.Prelude.{filter, find}
use Rattle.std.specs.Option.{option_map, option_map_or}
use Rattle.std.proofs.lemmas.Bool.{eqb-true}
use Rattle.std.proofs.lemmas.Option.{slice_get_within}
use Rattle.engine_types.specs.declared.Action.{Action}
use Rattle.engine_types.specs.declared.ActionKind.{ActionKind}
use Rattle.engine_types.specs.declared.ActionKind.TheVariants.{StartSlot}
use Rattle.engine_types.specs.declared.Need.{Need}
use Rattle.run_model.specs.EngineRules.{Among}
use Rattle.run_model.specs.Plans.{Basis, IsOrderly, is_start_of, is_wanted, kind_of, needs_of, planned_kinds, slot_needs, start_of}
use Rattle.run_model.specs.Numbers.{places}
use Rattle.run_model.proofs.DistinctLists.{among_numbers, from_filter, from_place}
use Rattle.run_model.proofs.PlanLaws.{some_from}
use Rattle.plan_core.proofs.Loops.{length-mapped, slice_get-map}
use Rattle.plan_core.proofs.Ranks.{below, below_rises, below_short, length_numbers}
use Rattle.plan_core.proofs.Splits.{by_cases}

-- what a look-up finds is among the items, and passes
pub among_find : {X : Type 0} (p : X → Bool) (xs : List X) (x : X) → find p xs ≡ Some x → Among xs x × (p x ≡ true)
among_find p [] x found = absurd (cc found)
among_find p (y ∷ ys) x found = by_cases (p y)
    (λ t. let first : Some y ≡ Some x = sym (ap (λ (b : Bool). cond b (Some y) (find p ys)) t) ∙ found in let same : x ≡ y = cc first in (inl same, ap p same ∙ t))
    (λ f. let rest : find p ys ≡ Some x = sym (ap (λ (b : Bool). cond b (Some y) (find p ys)) f) ∙ found in let r = among_find p ys x rest in (inr r.0, r.1))

-- the actions of a plan, each of which needs those that it awaits
module _ (basis : Basis) (awaits : ActionKind → ActionKind → Bool) where
  abbrev awaits_at : ActionKind → ℕ → Bool
  awaits_at kind b = option_map_or (awaits kind) (slice_get (planned_kinds basis) b) false

  abbrev listed : ActionKind → Action
  listed kind = record { kind = kind; needs = filter (awaits_at kind) (places (planned_kinds basis)) }

  abbrev actions : List Action
  actions = map listed (planned_kinds basis)

  -- the action at a place, whose kind is wanted
  record IsAt (a : ℕ) (kind : ActionKind) : Type 0 where
    at : slice_get (planned_kinds basis) a ≡ Some kind
    is : kind_of actions a ≡ Some kind
    wanted : is_wanted basis kind ≡ true
    within : a < length actions

  is_at : (a : ℕ) (kind : ActionKind) → slice_get (planned_kinds basis) a ≡ Some kind → IsAt a kind
  is_at a kind e = record {
    at = e;
    is = ap (option_map (λ (action : Action). action.kind)) (slice_get-map listed (planned_kinds basis) a ∙ ap (option_map listed) e);
    wanted = (from_filter (is_wanted basis) _ kind (from_place (planned_kinds basis) a kind e)).0;
    within = let h = slice_get_within (planned_kinds basis) a kind e in let l = length-mapped listed (planned_kinds basis) in omega (arith, h, l);
  }

  from_kind : (a : ℕ) (kind : ActionKind) → kind_of actions a ≡ Some kind → IsAt a kind
  from_kind a kind e = at (slice_get (planned_kinds basis) a) refl (sym (ap (option_map (λ (action : Action). action.kind)) (slice_get-map listed (planned_kinds basis) a)) ∙ e)
    where
      at : (o : Option ActionKind) → slice_get (planned_kinds basis) a ≡ o → option_map (λ (action : Action). action.kind) (option_map listed o) ≡ Some kind → IsAt a kind
      at None h k = absurd (cc k)
      at (Some other) h k = let same : other ≡ kind = cc k in is_at a kind (h ∙ ap Some same)

  record Needs (a b : ℕ) : Type 0 where
    kind : ActionKind
    other : ActionKind
    first : IsAt a kind
    second : IsAt b other
    needed : awaits kind other ≡ true

  from_needs : (a b : ℕ) → Among (needs_of actions a) b → Needs a b
  from_needs a b m = at (slice_get (planned_kinds basis) a) refl
      (subst (λ (o : Option Action). Among (option_map_or (λ (action : Action). action.needs) o []) b) (slice_get-map listed (planned_kinds basis) a) m)
    where
      at : (o : Option ActionKind) → slice_get (planned_kinds basis) a ≡ o → Among (option_map_or (λ (action : Action). action.needs) (option_map listed o) []) b → Needs a b
      at None h k = absurd k
      at (Some kind) h k =
          let passed = from_filter (awaits_at kind) (places (planned_kinds basis)) b k in
          let r = some_from (awaits kind) (slice_get (planned_kinds basis) b) passed.0 in
          record { kind = kind; other = r.0; first = is_at a kind h; second = is_at b r.0 r.1; needed = r.2 }

  -- a rank of actions that rises along what is needed, and along the starts that a start waits for
  pub record Rises (rank : ActionKind → ℕ) : Type 0 where
    pub needs : (kind other : ActionKind) → is_wanted basis kind ≡ true → is_wanted basis other ≡ true → awaits kind other ≡ true → rank other < rank kind
    pub starts : (s : ℕ) (need : Need) → is_wanted basis (StartSlot s) ≡ true → Among (slot_needs basis.declared (Some (StartSlot s))) need
        → rank (StartSlot need.slot) < rank (StartSlot s)

  start_at : (s : ℕ) (o : Option ActionKind) → is_start_of s o ≡ true → o ≡ Some (StartSlot s)
  start_at s (Some (StartSlot t)) e = ap (λ (n : ℕ). Some (StartSlot n)) (eqb-true t s e)
  start_at s _ e = absurd (cc e)

  abbrev all : List ℕ
  all = places actions

  among_all : (a : ℕ) → a < length actions → Among all a
  among_all a h = among_numbers 0 (length actions) a (omega arith) (omega (arith, h))

  module _ (rank : ActionKind → ℕ) (rises : Rises rank) where
    abbrev place_rank : ℕ → ℕ
    place_rank a = option_map_or rank (kind_of actions a) 0

    within : (a : ℕ) → a < length actions → below place_rank all (place_rank a) < length actions
    within a h =
        let short = below_short place_rank all a (among_all a h) in
        let l = length_numbers 0 (length actions) in omega (arith, short, l)

    rise : (a b : ℕ) (kind other : ActionKind) → IsAt a kind → IsAt b other → rank other < rank kind
        → below place_rank all (place_rank b) < below place_rank all (place_rank a)
    rise a b kind other first second h =
        let at_a : place_rank a ≡ rank kind = ap (λ (o : Option ActionKind). option_map_or rank o 0) first.is in
        let at_b : place_rank b ≡ rank other = ap (λ (o : Option ActionKind). option_map_or rank o 0) second.is in
        below_rises place_rank all b (place_rank a) (among_all b second.within) (omega (arith, at_a, at_b, h))

    starts : (a b : ℕ) (need : Need) (o : Option ActionKind) → kind_of actions a ≡ o → Among (slot_needs basis.declared (kind_of actions a)) need
        → start_of actions need.slot ≡ Some b → below place_rank all (place_rank b) < below place_rank all (place_rank a)
    starts a b need (Some (StartSlot s)) h m e =
        let first = from_kind a (StartSlot s) h in
        let found = among_find (λ (c : ℕ). is_start_of need.slot (kind_of actions c)) all b e in
        let second = from_kind b (StartSlot need.slot) (start_at need.slot (kind_of actions b) found.1) in
        rise a b (StartSlot s) (StartSlot need.slot) first second
        (rises.starts s need first.wanted (subst (λ (k : Option ActionKind). Among (slot_needs basis.declared k) need) h m))
    starts a b need o h m e = absurd (subst (λ (k : Option ActionKind). Among (slot_needs basis.declared k) need) h m)

    pub orderly : IsOrderly basis.declared actions
    orderly = record {
      rank = λ a. below place_rank all (place_rank a);
      within = within;
      there = λ a b m. (from_needs a b m).second.within;
      needs = λ a b m. let n = from_needs a b m in rise a b n.kind n.other n.first n.second (rises.needs n.kind n.other n.first.wanted n.second.wanted n.needed);
      starts = λ a b need m e. starts a b need (kind_of actions a) refl m e;
    }
