-- Of the rolled slots of all services, in order, a slot waits for the one that stands as many before as are replaced at a time, where
-- that is of its service.
use Rattle.std.proofs.Common.{◌≡◌, ◌⊎◌, ◌↔◌, ℕ, zero, suc, ◌+◌, ◌-◌, ◌<◌, ◌≤◌, Bool, true, false, cond, ◌==◌, ◌&&◌, ◌||◌, List, [], ◌∷◌, ◌++◌, length, take, Option, Some, None, slice_get, refl, sym, ap, ◌∙◌, subst, inl, inr, arith, nat_lt}
use Rattle.std.specs.Prelude.{filter, find}
use Rattle.std.specs.Option.{option_map_or}
use Rattle.std.specs.Str.{bytes_eq}
use Rattle.std.proofs.lemmas.Bool.{and_from, and_parts, both_ways, cases_lt, cases_order, eq-eqb, eqb-true, false_from_ne_true, ltb-true, or_cases}
use Rattle.std.proofs.lemmas.Cmp.{nat_list_cmp_total}
use Rattle.std.proofs.lemmas.Slice.Eq.{bytes_eq-Decides}
use Rattle.std.specs.Cmp.Lexicographic.{slice_cmp}
use Rattle.std.specs.Ordering.{is_lt, nat_cmp, ordering_reverse}
use Rattle.std.specs.declared.cmp.Ordering.{Ordering}
use Rattle.std.specs.declared.cmp.Ordering.TheVariants.{Less, Equal, Greater}
use Rattle.engine_types.specs.declared.DeclaredService.{DeclaredService}
use Rattle.engine_types.specs.declared.Slot.{Slot}
use Rattle.tree_base.specs.ByteOrder.{is_before}
use Rattle.run_model.specs.EngineRules.{Among}
use Rattle.run_model.specs.Numbers.{numbers_from}
use Rattle.run_model.specs.Plans.{Basis, IsWhole, is_slot_before, slot_at}
use Rattle.run_model.specs.Rolling.{is_rolled, roll_of, rolled_before, waits_for}
use Rattle.run_model.proofs.DistinctLists.{distinct_filter, distinct_numbers, from_filter, from_numbers, from_place, same_place}
use Rattle.run_model.proofs.PlanLaws.{some_from}
use Rattle.std.proofs.lemmas.List.{length_push}
use Rattle.plan_core.proofs.Loops.{numbers_passed}
use Rattle.world_laws.proofs.ActionRequests.{then_from}
use Rattle.rolling_update.specs.Needs.{AreWaited, Scene, is_rolled_at, rolling, waits_at}
use Rattle.rolling_update.proofs.Rows.{Before, before_of}
use Rattle.rolling_update.proofs.Slots.{not_before, slot_apart}

-- the rank of a number that passes is its place among those that pass
at_rank : (p : ℕ → Bool) (i n k : ℕ) → k < n → p (i + k) ≡ true → slice_get (filter p (numbers_from i n)) (length (filter p (numbers_from i k))) ≡ Some (i + k)
at_rank p i zero k l e = absurd (omega (arith, l))
at_rank p i (suc n) zero l e =
    let here : i + 0 ≡ i = omega arith in
    let passes : p i ≡ true = sym (ap p here) ∙ e in
    ap (λ (b : Bool). slice_get (cond b (i ∷ filter p (numbers_from (i + 1) n)) (filter p (numbers_from (i + 1) n))) 0) passes ∙ sym (ap (λ (m : ℕ). Some m) here)
at_rank p i (suc n) (suc k) l e =
    let next : i + 1 + k ≡ i + suc k = omega arith in
    by (p i) (at_rank p (i + 1) n k (omega (arith, l)) (ap p next ∙ e) ∙ ap (λ (m : ℕ). Some m) next)
  where
    by : (t : Bool) → slice_get (filter p (numbers_from (i + 1) n)) (length (filter p (numbers_from (i + 1) k))) ≡ Some (i + suc k)
        → slice_get (cond t (i ∷ filter p (numbers_from (i + 1) n)) (filter p (numbers_from (i + 1) n)))
        (length (cond t (i ∷ filter p (numbers_from (i + 1) k)) (filter p (numbers_from (i + 1) k)))) ≡ Some (i + suc k)
    by true rest = rest
    by false rest = rest

-- ranks rise
rank_rises : (p : ℕ → Bool) (i a b : ℕ) → a ≤ b → length (filter p (numbers_from i a)) ≤ length (filter p (numbers_from i b))
rank_rises p i zero b l = omega arith
rank_rises p i (suc a) zero l = absurd (omega (arith, l))
rank_rises p i (suc a) (suc b) l = by (p i) (rank_rises p (i + 1) a b (omega (arith, l)))
  where
    by : (t : Bool) → length (filter p (numbers_from (i + 1) a)) ≤ length (filter p (numbers_from (i + 1) b))
        → length (cond t (i ∷ filter p (numbers_from (i + 1) a)) (filter p (numbers_from (i + 1) a)))
        ≤ length (cond t (i ∷ filter p (numbers_from (i + 1) b)) (filter p (numbers_from (i + 1) b)))
    by true rest = omega (arith, rest)
    by false rest = rest

-- as many places pass as elements
counted : {X : Type 0} (r : X → Bool) (g : ℕ → Option X) (i : ℕ) (xs : List X) (u : ℕ) → ((k : ℕ) → g (i + k) ≡ slice_get xs k) → u ≤ length xs
    → length (filter (λ (v : ℕ). option_map_or r (g v) false) (numbers_from i u)) ≡ length (filter r (take u xs))
counted r g i [] zero h l = refl
counted r g i [] (suc u) h l = absurd (omega (arith, l))
counted r g i (x ∷ xs) zero h l = refl
counted {X} r g i (x ∷ xs) (suc u) h l =
    let start : i ≡ i + 0 = omega arith in
    let here : g i ≡ Some x = ap g start ∙ h 0 in
    ap (λ (o : Option X). length (cond (option_map_or r o false) (i ∷ rest) rest)) here
    ∙ by (r x) (counted r g (i + 1) xs u (λ k. let next : i + 1 + k ≡ i + suc k = omega arith in ap g next ∙ h (suc k)) (omega (arith, l)))
  where
    rest : List ℕ
    rest = filter (λ (v : ℕ). option_map_or r (g v) false) (numbers_from (i + 1) u)

    by : (t : Bool) → length rest ≡ length (filter r (take u xs)) → length (cond t (i ∷ rest) rest) ≡ length (cond t (x ∷ filter r (take u xs)) (filter r (take u xs)))
    by true e = ap suc e
    by false e = e

-- where none passes, none is left
none_left : {X : Type 0} (p : X → Bool) (xs : List X) → ((x : X) → Among xs x → p x ≡ false) → filter p xs ≡ []
none_left p [] h = refl
none_left p (x ∷ xs) h = ap (λ (b : Bool). cond b (x ∷ filter p xs) (filter p xs)) (h x (inl refl)) ∙ none_left p xs (λ y m. h y (inr m))

-- in a list in order those before an element are those at lesser places
before_taken : {X : Type 0} (before : X → X → Bool) (r : X → Bool) (xs : List X) → Before before xs → ((x : X) → before x x ≡ false)
    → ((x y : X) → before x y ≡ true → before y x ≡ false) → (u : ℕ) (x : X) → slice_get xs u ≡ Some x
    → filter (λ y. before y x && r y) xs ≡ filter r (take u xs)
before_taken before r [] b itself other u x e = absurd (cc e)
before_taken {X} before r (z ∷ zs) b itself other zero x e = none_left (λ y. before y x && r y) (z ∷ zs) (λ y m. fails y m)
  where
    same : z ≡ x
    same = cc e

    fails : (y : X) → Among (z ∷ zs) y → (before y x && r y) ≡ false
    fails y (inl h) = ap (λ (t : Bool). t && r y) (subst (λ (w : X). before w x ≡ false) (sym (h ∙ same)) (itself x))
    fails y (inr m) = ap (λ (t : Bool). t && r y) (subst (λ (w : X). before y w ≡ false) same (other z y (b.0 y m)))
before_taken {X} before r (z ∷ zs) b itself other (suc u) x e =
    ap (λ (t : Bool). cond (t && r z) (z ∷ filter (λ y. before y x && r y) zs) (filter (λ y. before y x && r y) zs)) (b.0 x (from_place zs u x e))
    ∙ ap (λ (ys : List X). cond (r z) (z ∷ ys) ys) (before_taken before r zs b.1 itself other u x e)

-- those that pass one of two tests that don't pass together
either_count : {X : Type 0} (a b r : X → Bool) (xs : List X) → ((x : X) → a x ≡ true → b x ≡ false)
    → length (filter (λ x. (a x || b x) && r x) xs) ≡ length (filter (λ x. a x && r x) xs) + length (filter (λ x. b x && r x) xs)
either_count a b r [] apart = refl
either_count a b r (x ∷ xs) apart = by (a x) (b x) (r x) (apart x) (either_count a b r xs apart)
  where
    by : (s t u : Bool) → (s ≡ true → t ≡ false) → length (filter (λ y. (a y || b y) && r y) xs) ≡ length (filter (λ y. a y && r y) xs) + length (filter (λ y. b y && r y) xs)
        → length (cond ((s || t) && u) (x ∷ filter (λ y. (a y || b y) && r y) xs) (filter (λ y. (a y || b y) && r y) xs))
        ≡ length (cond (s && u) (x ∷ filter (λ y. a y && r y) xs) (filter (λ y. a y && r y) xs)) + length (cond (t && u) (x ∷ filter (λ y. b y && r y) xs) (filter (λ y. b y && r y) xs))
    by true true u apart rest = let bad : true ≡ false = apart refl in absurd (cc bad)
    by true false true apart rest = omega (arith, rest)
    by true false false apart rest = rest
    by false true true apart rest = omega (arith, rest)
    by false true false apart rest = rest
    by false false u apart rest = rest

-- of two texts at most one stands before the other
not_after : (s t : List ℕ) → is_before s t ≡ true → is_before t s ≡ false
not_after s t e = ap is_lt (nat_list_cmp_total.antisymm t s ∙ ap ordering_reverse (less (slice_cmp nat_cmp s t) e))
  where
    less : (o : Ordering) → is_lt o ≡ true → o ≡ Less
    less Less h = refl
    less Equal h = absurd (cc h)
    less Greater h = absurd (cc h)

-- a service that is found is one of them
found_among : {X : Type 0} (test : X → Bool) (xs : List X) (x : X) → find test xs ≡ Some x → Among xs x
found_among test [] x e = absurd (cc e)
found_among {X} test (y ∷ ys) x e = at (test y) (found_among test ys x) e
  where
    at : (t : Bool) → (find test ys ≡ Some x → Among ys x) → cond t (Some y) (find test ys) ≡ Some x → Among (y ∷ ys) x
    at true rest f = let same : y ≡ x = cc f in inl (sym same)
    at false rest f = inr (rest f)

module _ (scene : Scene) (whole : IsWhole scene.declared) where
  abbrev basis : Basis
  basis = rolling scene

  abbrev slots : List Slot
  slots = scene.declared.slots

  abbrev passes : ℕ → Bool
  passes = is_rolled_at scene

  -- how many rolled slots stand before the one with a number
  abbrev rank : ℕ → ℕ
  rank u = length (filter passes (numbers_from 0 u))

  -- how many rolled slots are of services before one
  abbrev base : List ℕ → ℕ
  base key = length (filter (λ (y : Slot). is_before y.service key && is_rolled basis y) slots)

  itself : (x : Slot) → is_slot_before x x ≡ false
  itself x = false_from_ne_true (is_slot_before x x) (slot_apart x x refl refl)

  other_way : (x y : Slot) → is_slot_before x y ≡ true → is_slot_before y x ≡ false
  other_way x y e = false_from_ne_true (is_slot_before y x) (λ f. at (or_cases (is_before x.service y.service) _ e) (or_cases (is_before y.service x.service) _ f))
    where
      at : (is_before x.service y.service ≡ true) ⊎ ((bytes_eq x.service y.service && nat_lt x.number y.number) ≡ true)
          → (is_before y.service x.service ≡ true) ⊎ ((bytes_eq y.service x.service && nat_lt y.number x.number) ≡ true) → ⊥
      at (inl h) (inl k) = both_ways (is_before y.service x.service) (not_after x.service y.service h) k
      at (inl h) (inr k) =
          let same = (bytes_eq-Decides y.service x.service).0 (and_parts (bytes_eq y.service x.service) _ k).0 in
          not_before x.service (subst (λ (s : List ℕ). is_before x.service s ≡ true) same h)
      at (inr h) (inl k) =
          let same = (bytes_eq-Decides x.service y.service).0 (and_parts (bytes_eq x.service y.service) _ h).0 in
          not_before y.service (subst (λ (s : List ℕ). is_before y.service s ≡ true) same k)
      at (inr h) (inr k) =
          let less = ltb-true x.number y.number (and_parts (bytes_eq x.service y.service) _ h).1 in
          let more = ltb-true y.number x.number (and_parts (bytes_eq y.service x.service) _ k).1 in
          omega (arith, less, more)

  -- the rank among all is that in the service, behind those of the services before
  rank_is : (u : ℕ) (x : Slot) → slice_get slots u ≡ Some x → rank u ≡ base x.service + rolled_before basis x
  rank_is u x e =
      counted (is_rolled basis) (slice_get slots) 0 slots u (λ k. let same : 0 + k ≡ k = omega arith in ap (slice_get slots) same) (below slots u x e)
      ∙ sym (ap length (before_taken is_slot_before (is_rolled basis) slots (before_of is_slot_before slots whole.slots) itself other_way u x e))
      ∙ either_count (λ (y : Slot). is_before y.service x.service) (λ (y : Slot). bytes_eq y.service x.service && nat_lt y.number x.number) (is_rolled basis) slots apart
    where
      below : {X : Type 0} (xs : List X) (i : ℕ) (y : X) → slice_get xs i ≡ Some y → i ≤ length xs
      below [] i y h = absurd (cc h)
      below (z ∷ zs) zero y h = omega arith
      below (z ∷ zs) (suc i) y h = let rest = below zs i y h in omega (arith, rest)

      apart : (y : Slot) → is_before y.service x.service ≡ true → (bytes_eq y.service x.service && nat_lt y.number x.number) ≡ false
      apart y h = false_from_ne_true _ (λ f.
          let same = (bytes_eq-Decides y.service x.service).0 (and_parts (bytes_eq y.service x.service) _ f).0 in
          not_before x.service (subst (λ (k : List ℕ). is_before k x.service ≡ true) same h))

  -- no service replaces none at a time
  never_none : (x : Slot) → roll_of scene.declared x ≡ Some 0 → ⊥
  never_none x e =
      let service = then_from (λ (s : DeclaredService). s.roll) (find (λ (s : DeclaredService). bytes_eq s.key x.service) scene.declared.services) 0 e in
      whole.rolls service.0 (found_among (λ (s : DeclaredService). bytes_eq s.key x.service) scene.declared.services service.0 service.1) service.2

  -- what stands for the slot that is waited for
  pub record IsBefore (s count t : ℕ) (x : Slot) : Type 0 where
    pub within : count ≤ rank s
    pub there : slice_get (filter passes (numbers_from 0 s)) (rank s - count) ≡ Some t
    pub ours : option_map_or (λ (other : Slot). bytes_eq x.service other.service) (slot_at scene.declared t) false ≡ true

  module _ (s : ℕ) (x : Slot) (is : slot_at scene.declared s ≡ Some x) (rolled : is_rolled basis x ≡ true) (count : ℕ) (by_roll : roll_of scene.declared x ≡ Some count) (t : ℕ) where
    pub waited_before : waits_at scene s t ≡ true → IsBefore s count t x
    waited_before e =
        let waits : option_map_or (waits_for basis x) (slot_at scene.declared t) false ≡ true
        = sym (ap (λ (o : Option Slot). option_map_or (λ (slot : Slot). option_map_or (waits_for basis slot) (slot_at scene.declared t) false) o false) is) ∙ e in
        let y = some_from (waits_for basis x) (slot_at scene.declared t) waits in
        let parts = and_parts (is_rolled basis x && is_rolled basis y.0 && bytes_eq x.service y.0.service) _ y.2 in
        let first = and_parts (is_rolled basis x && is_rolled basis y.0) (bytes_eq x.service y.0.service) parts.0 in
        let second = and_parts (is_rolled basis x) (is_rolled basis y.0) first.0 in
        let same = (bytes_eq-Decides x.service y.0.service).0 first.1 in
        let ranks : (rolled_before basis y.0 + count == rolled_before basis x) ≡ true
        = sym (ap (λ (o : Option ℕ). option_map_or (λ (n : ℕ). rolled_before basis y.0 + n == rolled_before basis x) o false) by_roll) ∙ parts.1 in
        let sum = eqb-true (rolled_before basis y.0 + count) (rolled_before basis x) ranks in
        let ours = rank_is s x is in
        let theirs = rank_is t y.0 y.1 in
        let bases : base x.service ≡ base y.0.service = ap base same in
        let ends : rank t + count ≡ rank s = omega (arith, sum, ours, theirs, bases) in
        let some : 0 < count = positive count by_roll in
        let less : t < s = earlier (cases_lt t s) ends some in
        let place : rank s - count ≡ rank t = omega (arith, ends) in
        record {
          within = omega (arith, ends);
          there = ap (slice_get (filter passes (numbers_from 0 s))) place
              ∙ (let start : 0 + t ≡ t = omega arith in at_rank passes 0 s t less (ap passes start ∙ ap (λ (o : Option Slot). option_map_or (is_rolled basis) o false) y.1 ∙ second.1) ∙ ap (λ (m : ℕ). Some m) start);
          ours = ap (λ (o : Option Slot). option_map_or (λ (other : Slot). bytes_eq x.service other.service) o false) y.1 ∙ first.1;
        }
      where
        positive : (n : ℕ) → roll_of scene.declared x ≡ Some n → 0 < n
        positive zero h = absurd (never_none x h)
        positive (suc n) h = omega arith

        earlier : (t < s) ⊎ (s ≤ t) → rank t + count ≡ rank s → 0 < count → t < s
        earlier (inl l) e some = l
        earlier (inr l) e some = let up = rank_rises passes 0 s t l in absurd (omega (arith, up, e, some))

    pub before_waited : IsBefore s count t x → waits_at scene s t ≡ true
    before_waited b =
        let m = from_filter passes (numbers_from 0 s) t (from_place (filter passes (numbers_from 0 s)) (rank s - count) t b.there) in
        let less = (from_numbers 0 s t m.1).1 in
        let start : 0 + t ≡ t = omega arith in
        let again = at_rank passes 0 s t (omega (arith, less)) (ap passes start ∙ m.0) ∙ ap (λ (n : ℕ). Some n) start in
        let place = same_place (filter passes (numbers_from 0 s)) (rank s - count) (rank t) t (distinct_filter passes (numbers_from 0 s) (distinct_numbers 0 s)) b.there again in
        let y = some_from (is_rolled basis) (slot_at scene.declared t) m.0 in
        let eq : bytes_eq x.service y.0.service ≡ true = sym (ap (λ (o : Option Slot). option_map_or (λ (other : Slot). bytes_eq x.service other.service) o false) y.1) ∙ b.ours in
        let same = (bytes_eq-Decides x.service y.0.service).0 eq in
        let bases : base x.service ≡ base y.0.service = ap base same in
        let ours = rank_is s x is in
        let theirs = rank_is t y.0 y.1 in
        let within = b.within in
        let sum : rolled_before basis y.0 + count ≡ rolled_before basis x = omega (arith, within, place, ours, theirs, bases) in
        let ranks : option_map_or (λ (n : ℕ). rolled_before basis y.0 + n == rolled_before basis x) (roll_of scene.declared x) false ≡ true
        = ap (λ (o : Option ℕ). option_map_or (λ (n : ℕ). rolled_before basis y.0 + n == rolled_before basis x) o false) by_roll ∙ eq-eqb (rolled_before basis y.0 + count) (rolled_before basis x) sum in
        let waits : waits_for basis x y.0 ≡ true = and_from _ _ (and_from _ _ (and_from _ _ rolled y.2) eq) ranks in
        ap (λ (o : Option Slot). option_map_or (λ (slot : Slot). option_map_or (waits_for basis slot) (slot_at scene.declared t) false) o false) is
        ∙ ap (λ (o : Option Slot). option_map_or (waits_for basis x) o false) y.1 ∙ waits

-- for which slot one waits, by the rolled ones before it
module _ (scene : Scene) (whole : IsWhole scene.declared) (s : ℕ) (row : List ℕ) (is_row : row ≡ filter (is_rolled_at scene) (numbers_from 0 s)) where
  abbrev pub Waits : Option ℕ → Type 0
  Waits o = (t : ℕ) → (o ≡ Some t) ↔ (waits_at scene s t ≡ true)

  nothing : ((t : ℕ) → waits_at scene s t ≡ true → ⊥) → Waits None
  nothing none t = (λ e. absurd (cc e), λ h. absurd (none t h))

  module _ (x : Slot) (is : slot_at scene.declared s ≡ Some x) where
    abbrev is_ours : ℕ → Bool
    is_ours t = option_map_or (λ (other : Slot). bytes_eq x.service other.service) (slot_at scene.declared t) false

    module _ (passed : is_rolled_at scene s ≡ true) (count : ℕ) (by_roll : roll_of scene.declared x ≡ Some count) (o : Option ℕ)
        (says : (t : ℕ) → (o ≡ Some t) ↔ ((count ≤ length row) × (slice_get row (length row - count) ≡ Some t))) where
      rolled : is_rolled (rolling scene) x ≡ true
      rolled = sym (ap (λ (slot : Option Slot). option_map_or (is_rolled (rolling scene)) slot false) is) ∙ passed

      stands : (t : ℕ) → waits_at scene s t ≡ true → (o ≡ Some t) × (is_ours t ≡ true)
      stands t h =
          let b = waited_before scene whole s x is rolled count by_roll t h in (
            (says t).1 (subst (λ (ns : List ℕ). (count ≤ length ns) × (slice_get ns (length ns - count) ≡ Some t)) (sym is_row) (b.within, b.there)),
            b.ours,
          )

      pub found : (u : ℕ) → o ≡ Some u → is_ours u ≡ true → Waits (Some u)
      found u e ours t = (
        λ same.
            let here : o ≡ Some t = e ∙ same in
            let at = subst (λ (ns : List ℕ). (count ≤ length ns) × (slice_get ns (length ns - count) ≡ Some t)) is_row ((says t).0 here) in
            let one : u ≡ t = cc same in
            before_waited scene whole s x is rolled count by_roll t (record { within = at.0; there = at.1; ours = subst (λ (n : ℕ). is_ours n ≡ true) one ours }),
        λ h. sym e ∙ (stands t h).0,
      )

      pub of_another : (u : ℕ) → o ≡ Some u → is_ours u ≡ false → Waits None
      of_another u e ours = nothing (λ t h.
          let w = stands t h in
          let same : Some u ≡ Some t = sym e ∙ w.0 in
          let one : u ≡ t = cc same in
          both_ways (is_ours t) (subst (λ (n : ℕ). is_ours n ≡ false) one ours) w.1)

      pub none_found : o ≡ None → Waits None
      none_found e = nothing (λ t h. let w = stands t h in let bad : None ≡ Some t = sym e ∙ w.0 in cc bad)

-- the slots for which those up to one wait, and the rolled ones of these
pub record Waited (scene : Scene) (waited : List (Option ℕ)) (row : List ℕ) (n : ℕ) : Type 0 where
  pub row_is : row ≡ filter (is_rolled_at scene) (numbers_from 0 n)
  pub size : length waited ≡ n
  pub each : (s t : ℕ) → (slice_get waited s ≡ Some (Some t)) ↔ ((s < n) × (waits_at scene s t ≡ true))

-- one slot more
pub waited_more : (scene : Scene) (waited after : List (Option ℕ)) (row next : List ℕ) (n : ℕ) (o : Option ℕ) (is : Bool) → Waited scene waited row n
    → after ≡ waited ++ o ∷ [] → next ≡ row ++ cond is (n ∷ []) [] → is ≡ is_rolled_at scene n → ((t : ℕ) → (o ≡ Some t) ↔ (waits_at scene n t ≡ true))
    → Waited scene after next (n + 1)
waited_more scene waited after row next n o is w put more same says = record {
  row_is = more ∙ ap (λ (ns : List ℕ). ns ++ cond is (n ∷ []) []) w.row_is ∙ sym (numbers_passed (is_rolled_at scene) is n (sym same));
  size = let e = ap length put in let l = length_push waited o in let s = w.size in omega (arith, e, l, s);
  each = λ s t. (
    λ e. down s t (cases_order s n) (sym (ap (λ (ws : List (Option ℕ)). slice_get ws s) put) ∙ e),
    λ h. ap (λ (ws : List (Option ℕ)). slice_get ws s) put ∙ up s t (cases_order s n) h,
  );
}
  where
    first : (ws : List (Option ℕ)) (s : ℕ) → s < length ws → slice_get (ws ++ o ∷ []) s ≡ slice_get ws s
    first [] s l = absurd (omega (arith, l))
    first (x ∷ ws) zero l = refl
    first (x ∷ ws) (suc s) l = first ws s (omega (arith, l))

    last : (ws : List (Option ℕ)) → slice_get (ws ++ o ∷ []) (length ws) ≡ Some o
    last [] = refl
    last (x ∷ ws) = last ws

    past : (ws : List (Option ℕ)) (s : ℕ) → length ws < s → slice_get (ws ++ o ∷ []) s ≡ None
    past [] zero l = absurd (omega (arith, l))
    past [] (suc s) l = refl
    past (x ∷ ws) zero l = absurd (omega (arith, l))
    past (x ∷ ws) (suc s) l = past ws s (omega (arith, l))

    down : (s t : ℕ) → (s ≡ n) ⊎ ((s < n) ⊎ (n < s)) → slice_get (waited ++ o ∷ []) s ≡ Some (Some t) → (s < n + 1) × (waits_at scene s t ≡ true)
    down s t (inl h) e =
        let at : s ≡ length waited = h ∙ sym w.size in
        let same : Some o ≡ Some (Some t) = sym (ap (slice_get (waited ++ o ∷ [])) at ∙ last waited) ∙ e in
        (omega (arith, h), subst (λ (m : ℕ). waits_at scene m t ≡ true) (sym h) ((says t).0 (cc same)))
    down s t (inr (inl l)) e =
        let size = w.size in
        let r = (w.each s t).0 (sym (first waited s (omega (arith, l, size))) ∙ e) in (omega (arith, l), r.1)
    down s t (inr (inr l)) e = let size = w.size in let bad : None ≡ Some (Some t) = sym (past waited s (omega (arith, l, size))) ∙ e in absurd (cc bad)

    up : (s t : ℕ) → (s ≡ n) ⊎ ((s < n) ⊎ (n < s)) → (s < n + 1) × (waits_at scene s t ≡ true) → slice_get (waited ++ o ∷ []) s ≡ Some (Some t)
    up s t (inl h) e =
        ap (slice_get (waited ++ o ∷ [])) (h ∙ sym w.size) ∙ last waited ∙ ap (λ (p : Option ℕ). Some p) ((says t).1 (subst (λ (m : ℕ). waits_at scene m t ≡ true) h e.1))
    up s t (inr (inl l)) e = let size = w.size in first waited s (omega (arith, l, size)) ∙ (w.each s t).1 (l, e.1)
    up s t (inr (inr l)) e = let m = e.0 in absurd (omega (arith, l, m))

-- all of them at last
pub all_waited : (scene : Scene) (waited : List (Option ℕ)) (row : List ℕ) (n : ℕ) → length scene.declared.slots ≤ n → Waited scene waited row n → AreWaited scene waited
all_waited scene waited row n l w s t = (λ e. ((w.each s t).0 e).1, λ h. (w.each s t).1 (below s h, h))
  where
    within : (xs : List Slot) (i : ℕ) (y : Slot) → slice_get xs i ≡ Some y → i < length xs
    within [] i y h = absurd (cc h)
    within (z ∷ zs) zero y h = omega arith
    within (z ∷ zs) (suc i) y h = let rest = within zs i y h in omega (arith, rest)

    below : (s : ℕ) → waits_at scene s t ≡ true → s < n
    below s h =
        let x = some_from (λ (slot : Slot). option_map_or (waits_for (rolling scene) slot) (slot_at scene.declared t) false) (slot_at scene.declared s) h in
        let k = within scene.declared.slots s x.0 x.1 in omega (arith, k, l)
