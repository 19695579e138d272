-- What is known of slots that are rolled: the one that is waited for has a lesser number, and a container of a rolled slot has no
-- other slot's name.
use Rattle.std.proofs.Common.{◌≡◌, ℕ, ◌+◌, ◌-◌, ◌<◌, ◌≤◌, ◌^◌, Bool, true, false, cond, not, ◌&&◌, ◌||◌, ◌==◌, List, [], ◌∷◌, length, Some, nat_lt, refl, sym, ap, ◌∙◌, subst, inl, inr, arith}
use Rattle.std.specs.Prelude.{decimal, filter, is_some}
use Rattle.std.specs.List.{list_any}
use Rattle.std.specs.Str.{bytes_eq}
use Rattle.std.proofs.lemmas.Bool.{and_parts, eqb-true, lt-ltb, ltb-false, ltb-true}
use Rattle.std.proofs.lemmas.Fmt.{decimal_injective}
use Rattle.std.proofs.lemmas.Slice.Eq.{bytes_eq-Decides}
use Rattle.engine_types.specs.declared.Declared.{Declared}
use Rattle.engine_types.specs.declared.Listed.{Listed}
use Rattle.engine_types.specs.declared.Slot.{Slot}
use Rattle.tree_base.specs.declared.place.Var.{Var}
use Rattle.run_model.specs.EngineRules.{Among, is_live, is_of_project}
use Rattle.run_model.specs.Labels.{is_of_slot, names_service, names_slot}
use Rattle.run_model.specs.Plans.{Basis, HasSmallNumbers, is_in_way, is_unstarted}
use Rattle.run_model.specs.Rolling.{has_name_of_another, has_seen, is_crossed, is_rolled, is_same_slot, roll_of, rolled_before, waits_for}
use Rattle.run_model.proofs.PlanLaws.{some_from}
use Rattle.plan_core.proofs.OrderlyPlans.{service_is}
use Rattle.plan_core.proofs.SlotTexts.{number_is}
use Rattle.plan_core.proofs.Splits.{by_cases}

-- what passes one test and is among the elements passes a test of any
pub any_of : {X : Type 0} (p : X → Bool) (xs : List X) (x : X) → Among xs x → p x ≡ true → list_any p xs ≡ true
any_of p [] x m e = absurd m
any_of p (y ∷ ys) x (inl same) e = ap (λ (b : Bool). b || list_any p ys) (ap p (sym same) ∙ e)
any_of p (y ∷ ys) x (inr m) e = at (p y) (any_of p ys x m e)
  where
    at : (b : Bool) → list_any p ys ≡ true → (b || list_any p ys) ≡ true
    at true h = refl
    at false h = h

-- a test that passes more keeps at least as many
more_kept : {X : Type 0} (p q : X → Bool) → ((x : X) → p x ≡ true → q x ≡ true) → (xs : List X) → length (filter p xs) ≤ length (filter q xs)
more_kept p q wider [] = omega arith
more_kept p q wider (x ∷ xs) = at (p x) (q x) refl refl (more_kept p q wider xs)
  where
    at : (b c : Bool) → p x ≡ b → q x ≡ c → length (filter p xs) ≤ length (filter q xs)
        → length (cond b (x ∷ filter p xs) (filter p xs)) ≤ length (cond c (x ∷ filter q xs) (filter q xs))
    at true true e f h = omega (arith, h)
    at true false e f h = let bad : false ≡ true = sym f ∙ wider x e in absurd (cc bad)
    at false true e f h = omega (arith, h)
    at false false e f h = h

-- the second part of a test holds where both do, and the first
second_part : (x y z : Bool) → (x ≡ true → y ≡ true) → (x && z) ≡ true → (y && z) ≡ true
second_part true y z h e = rw (h refl) e
second_part false y z h e = absurd (cc e)

pub both_parts : (x y : Bool) → x ≡ true → y ≡ true → (x && y) ≡ true
both_parts true true e f = refl
both_parts true false e f = f
both_parts false y e f = absurd (cc e)

not_true : (b : Bool) → not b ≡ true → b ≡ false
not_true true e = absurd (cc e)
not_true false e = refl

module _ (basis : Basis) where
  -- a slot with a lesser number has no more rolled slots before it
  fewer : (slot other : Slot) → slot.service ≡ other.service → slot.number ≤ other.number → rolled_before basis slot ≤ rolled_before basis other
  fewer slot other same h = more_kept _ _ (λ x e. wider x e) basis.declared.slots
    where
      wider : (x : Slot) → (bytes_eq x.service slot.service && nat_lt x.number slot.number && is_rolled basis x) ≡ true
          → (bytes_eq x.service other.service && nat_lt x.number other.number && is_rolled basis x) ≡ true
      wider x e =
          let all = and_parts _ _ e in
          let first = and_parts (bytes_eq x.service slot.service) (nat_lt x.number slot.number) all.0 in
          let less = ltb-true x.number slot.number first.1 in
          both_parts (bytes_eq x.service other.service && nat_lt x.number other.number) (is_rolled basis x)
          (both_parts (bytes_eq x.service other.service) (nat_lt x.number other.number)
          (subst (λ (s : List ℕ). bytes_eq x.service s ≡ true) same first.0) (lt-ltb x.number other.number (omega (arith, less, h))))
          all.1

  -- what is known of a slot that waits for another one
  pub record Waits (slot other : Slot) : Type 0 where
    pub rolled : is_rolled basis slot ≡ true
    pub same : slot.service ≡ other.service
    pub less : other.number < slot.number

  pub waits : (slot other : Slot) → (roll_of basis.declared slot ≡ Some 0 → ⊥) → waits_for basis slot other ≡ true → Waits slot other
  waits slot other some e =
      let all = and_parts _ _ e in
      let two = and_parts _ _ all.0 in
      let first = and_parts (is_rolled basis slot) (is_rolled basis other) two.0 in
      let same = (bytes_eq-Decides slot.service other.service).0 two.1 in
      let roll = some_from (λ (count : ℕ). rolled_before basis other + count == rolled_before basis slot) (roll_of basis.declared slot) all.1 in
      let count = eqb-true (rolled_before basis other + roll.0) (rolled_before basis slot) roll.2 in
      record {
        rolled = first.0;
        same = same;
        less = by_cases (nat_lt other.number slot.number)
            (λ t. ltb-true other.number slot.number t)
            (λ f. let more = ltb-false other.number slot.number f in
            let kept = fewer slot other same more in
            absurd (some (roll.1 ∙ ap Some (none roll.0 (omega (arith, count, kept))))));
      }
    where
      none : (n : ℕ) → n < 1 → n ≡ 0
      none n h = omega (arith, h)

-- labels that name two slots name one service and one number
pub record AreOne (slot other : Slot) : Type 0 where
  pub service : slot.service ≡ other.service
  pub number : slot.number ≡ other.number

module _ (declared : Declared) (small : HasSmallNumbers declared) where
  below : (slot : Slot) → Among declared.slots slot → slot.number < 2 ^ 64
  below slot m = let fits = small slot m in omega (arith, fits)

  pub named_one : (slot other : Slot) (labels : List Var) → Among declared.slots slot → Among declared.slots other
      → names_slot slot labels ≡ true → names_slot other labels ≡ true → AreOne slot other
  named_one slot other labels m n e f =
      let first = and_parts (names_service slot.service labels) _ e in
      let second = and_parts (names_service other.service labels) _ f in
      record {
        service = sym (service_is slot.service labels first.0) ∙ service_is other.service labels second.0;
        number = decimal_injective slot.number other.number (below slot m) (below other n)
            (sym (number_is (decimal slot.number) labels first.1) ∙ number_is (decimal other.number) labels second.1);
      }

  pub of_one : (slot other : Slot) (labels : List Var) → Among declared.slots slot → Among declared.slots other
      → is_of_slot declared.project slot labels ≡ true → is_of_slot declared.project other labels ≡ true → AreOne slot other
  of_one slot other labels m n e f =
      named_one slot other labels m n (and_parts (is_of_project declared.project labels) _ e).1 (and_parts (is_of_project declared.project labels) _ f).1

  same_is : (slot other : Slot) → is_same_slot slot other ≡ true → AreOne slot other
  same_is slot other e =
      let parts = and_parts (bytes_eq slot.service other.service) _ e in
      record { service = (bytes_eq-Decides slot.service other.service).0 parts.0; number = eqb-true slot.number other.number parts.1 }

module _ (basis : Basis) (small : HasSmallNumbers basis.declared) where
  abbrev slots : List Slot
  slots = basis.declared.slots

  -- a container of a rolled slot is in the way of that slot alone
  pub in_own_way : (slot other : Slot) (row : Listed) → Among slots slot → Among slots other → Among basis.seen.containers row → is_rolled basis slot ≡ true
      → is_of_slot basis.declared.project slot row.labels ≡ true → is_in_way other row ≡ true → AreOne slot other
  in_own_way slot other row m n r rolled of way = by_cases (names_slot other row.labels)
      (λ named. named_one basis.declared small slot other row.labels m n (and_parts (is_of_project basis.declared.project row.labels) _ of).1 named)
      (λ unnamed. let has : bytes_eq row.name other.name ≡ true = sym (ap (λ (b : Bool). b || bytes_eq row.name other.name) unnamed) ∙ way in
      by_cases (is_same_slot slot other) (λ same. same_is basis.declared small slot other same) (λ differs. absurd (crossed has differs)))
    where
      uncrossed : is_crossed basis slot.service ≡ false
      uncrossed =
          let told : Bool = is_some (roll_of basis.declared slot) in
          let apart : Bool = not (is_crossed basis slot.service) in
          let live : Bool = has_seen basis.declared basis.seen slot (λ (r : Listed). is_live r.state) in
          not_true (is_crossed basis slot.service)
          (and_parts told apart (and_parts (told && apart) live (and_parts (told && apart && live) (is_unstarted basis slot) rolled).0).0).1

      crossed : bytes_eq row.name other.name ≡ true → is_same_slot slot other ≡ false → ⊥
      crossed has differs =
          let another : has_name_of_another basis.declared slot row ≡ true =
          any_of (λ (x : Slot). not (is_same_slot slot x) && bytes_eq row.name x.name) slots other n
          (both_parts (not (is_same_slot slot other)) (bytes_eq row.name other.name) (ap not differs) has) in
          let seen : has_seen basis.declared basis.seen slot (has_name_of_another basis.declared slot) ≡ true =
          any_of (λ (r : Listed). is_of_slot basis.declared.project slot r.labels && has_name_of_another basis.declared slot r) basis.seen.containers row r
          (both_parts (is_of_slot basis.declared.project slot row.labels) (has_name_of_another basis.declared slot row) of another) in
          let all : is_crossed basis slot.service ≡ true =
          any_of (λ (x : Slot). bytes_eq x.service slot.service && has_seen basis.declared basis.seen x (has_name_of_another basis.declared x)) slots slot m
          (both_parts (bytes_eq slot.service slot.service) (has_seen basis.declared basis.seen slot (has_name_of_another basis.declared slot)) ((bytes_eq-Decides slot.service slot.service).1 refl) seen) in
          let bad : false ≡ true = sym uncrossed ∙ all in cc bad
