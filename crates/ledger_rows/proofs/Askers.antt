-- Whether a slot is needed, by how many ask for it.
use Rattle.std.proofs.Common.{◌≡◌, ◌⊎◌, ℕ, zero, suc, ◌+◌, ◌<◌, ◌≤◌, Bool, true, false, cond, not, ◌&&◌, ◌||◌, ◌==◌, List, [], ◌∷◌, length, if◌then◌else◌, refl, sym, ap, ◌∙◌, inl, inr, arith}
use Rattle.std.proofs.lemmas.Bool.{cases_eq, lt-ltb, le-ltb}
use Rattle.std.specs.List.{list_any}
use Rattle.std.specs.Prelude.{nat_lt}
use Rattle.engine_types.specs.declared.Condition.{Condition}
use Rattle.engine_types.specs.declared.Entry.{Entry}
use Rattle.engine_types.specs.declared.Need.{Need}
use Rattle.run_model.specs.Conditions.{asks_for, has_failed, is_needed, is_pending}
use Rattle.run_model.specs.Journals.{Setup}
use Rattle.run_model.specs.Plans.{kind_of, slot_needs}
use Rattle.run_model.specs.Numbers.{numbers_from, places}
use Rattle.ledger_rows.specs.Facts.{askers, asks_of}
use Rattle.ledger_rows.specs.Counts.{counted, summed}
use Rattle.ledger_rows.proofs.Fixed.{any_same}

some_counted : {X : Type 0} (p : X → Bool) (xs : List X) → list_any p xs ≡ nat_lt 0 (counted p xs)
some_counted p [] = sym (le-ltb 0 0 (omega arith))
some_counted {X} p (x ∷ xs) = on (p x) (some_counted p xs)
  where
    on : (t : Bool) → list_any p xs ≡ nat_lt 0 (counted p xs) → (t || list_any p xs) ≡ nat_lt 0 (cond t (counted p xs + 1) (counted p xs))
    on true e = sym (lt-ltb 0 (counted p xs + 1) (omega arith))
    on false e = e

some_summed : (f : ℕ → ℕ) (xs : List ℕ) → list_any (λ a. nat_lt 0 (f a)) xs ≡ nat_lt 0 (summed f xs)
some_summed f [] = sym (le-ltb 0 0 (omega arith))
some_summed f (x ∷ xs) = ap (λ (t : Bool). nat_lt 0 (f x) || t) (some_summed f xs) ∙ on (f x) (summed f xs)
  where
    on : (m n : ℕ) → (nat_lt 0 m || nat_lt 0 n) ≡ nat_lt 0 (m + n)
    on zero n = ap (λ (t : Bool). t || nat_lt 0 n) (le-ltb 0 0 (omega arith)) ∙ ap (nat_lt 0) (let e : n ≡ 0 + n = omega arith in e)
    on (suc m) n = ap (λ (t : Bool). t || nat_lt 0 n) (lt-ltb 0 (suc m) (omega arith)) ∙ sym (lt-ltb 0 (suc m + n) (omega arith))

any_and : {X : Type 0} (p : X → Bool) (k : Bool) (xs : List X) → list_any (λ x. p x && k) xs ≡ (list_any p xs && k)
any_and p k [] = refl
any_and p k (x ∷ xs) = ap (λ (t : Bool). (p x && k) || t) (any_and p k xs) ∙ on (p x) (list_any p xs) k
  where
    on : (t u k : Bool) → ((t && k) || (u && k)) ≡ ((t || u) && k)
    on true u true = refl
    on true true false = refl
    on true false false = refl
    on false u k = refl

any_or : {X : Type 0} (p q : X → Bool) (xs : List X) → list_any (λ x. p x || q x) xs ≡ (list_any p xs || list_any q xs)
any_or p q [] = refl
any_or p q (x ∷ xs) = ap (λ (t : Bool). (p x || q x) || t) (any_or p q xs) ∙ on (p x) (q x) (list_any p xs) (list_any q xs)
  where
    on : (t u v w : Bool) → ((t || u) || (v || w)) ≡ ((t || v) || (u || w))
    on true u v w = refl
    on false true true w = refl
    on false true false w = refl
    on false false v w = refl

module _ (setup : Setup) (past : List Entry) (s : ℕ) where
  abbrev needs : ℕ → List Need
  needs a = slot_needs setup.declared (kind_of setup.actions a)

  abbrev healthy : Bool
  healthy = not (has_failed setup past s Condition.Healthy)

  abbrev completed : Bool
  completed = not (has_failed setup past s Condition.Completed)

  two_ways : (need : Need) → asks_for setup past s need ≡ ((asks_of s Condition.Healthy need && healthy) || (asks_of s Condition.Completed need && completed))
  two_ways need = by (need.slot == s) need.condition
    where
      none : (t : Bool) → ((t && false) || (t && false)) ≡ false
      none true = refl
      none false = refl

      by : (t : Bool) (c : Condition) → (t && Rattle.run_model.specs.Conditions.is_reported c && not (has_failed setup past s c))
          ≡ (((t && Rattle.ledger_rows.specs.Facts.same_condition c Condition.Healthy) && healthy) || ((t && Rattle.ledger_rows.specs.Facts.same_condition c Condition.Completed) && completed))
      by false c = refl
      by true Condition.Started = refl
      by true Condition.Running = refl
      by true Condition.Healthy = or_false healthy
        where
          or_false : (t : Bool) → t ≡ (t || false)
          or_false true = refl
          or_false false = refl
      by true Condition.Completed = refl

  by_action : (a : ℕ) (t : Bool) → (t && list_any (asks_for setup past s) (needs a))
      ≡ ((nat_lt 0 (if t then counted (asks_of s Condition.Healthy) (needs a) else 0) && healthy) || (nat_lt 0 (if t then counted (asks_of s Condition.Completed) (needs a) else 0) && completed))
  by_action a false = refl
  by_action a true =
      any_same (asks_for setup past s) (λ need. (asks_of s Condition.Healthy need && healthy) || (asks_of s Condition.Completed need && completed)) (needs a) (λ need m. two_ways need)
      ∙ any_or (λ need. asks_of s Condition.Healthy need && healthy) (λ need. asks_of s Condition.Completed need && completed) (needs a)
      ∙ ap (λ (t : Bool). t || list_any (λ need. asks_of s Condition.Completed need && completed) (needs a)) (any_and (asks_of s Condition.Healthy) healthy (needs a) ∙ ap (λ (t : Bool). t && healthy) (some_counted (asks_of s Condition.Healthy) (needs a)))
      ∙ ap (λ (t : Bool). (nat_lt 0 (counted (asks_of s Condition.Healthy) (needs a)) && healthy) || t) (any_and (asks_of s Condition.Completed) completed (needs a) ∙ ap (λ (t : Bool). t && completed) (some_counted (asks_of s Condition.Completed) (needs a)))

  -- a slot is needed where some ask for a condition that hasn't failed
  pub needed_is : is_needed setup past s
      ≡ ((nat_lt 0 (askers setup (is_pending setup past) s Condition.Healthy) && healthy) || (nat_lt 0 (askers setup (is_pending setup past) s Condition.Completed) && completed))
  needed_is =
      any_same (λ a. is_pending setup past a && list_any (asks_for setup past s) (needs a)) (λ a. (nat_lt 0 (number Condition.Healthy a) && healthy) || (nat_lt 0 (number Condition.Completed a) && completed)) (places setup.actions)
      (λ a m. by_action a (is_pending setup past a))
      ∙ any_or (λ a. nat_lt 0 (number Condition.Healthy a) && healthy) (λ a. nat_lt 0 (number Condition.Completed a) && completed) (places setup.actions)
      ∙ ap (λ (t : Bool). t || list_any (λ a. nat_lt 0 (number Condition.Completed a) && completed) (places setup.actions))
      (any_and (λ a. nat_lt 0 (number Condition.Healthy a)) healthy (places setup.actions) ∙ ap (λ (t : Bool). t && healthy) (some_summed (number Condition.Healthy) (places setup.actions)))
      ∙ ap (λ (t : Bool). (nat_lt 0 (summed (number Condition.Healthy) (places setup.actions)) && healthy) || t)
      (any_and (λ a. nat_lt 0 (number Condition.Completed a)) completed (places setup.actions) ∙ ap (λ (t : Bool). t && completed) (some_summed (number Condition.Completed) (places setup.actions)))
    where
      number : Condition → ℕ → ℕ
      number c a = if is_pending setup past a then counted (asks_of s c) (needs a) else 0

-- where one action is pending no more, its needs ask no more
pub askers_fall : (setup : Setup) (p q : ℕ → Bool) (b s : ℕ) (c : Condition) → b < length setup.actions → p b ≡ true → q b ≡ false → ((a : ℕ) → (a ≡ b → ⊥) → q a ≡ p a)
    → askers setup q s c + counted (asks_of s c) (slot_needs setup.declared (kind_of setup.actions b)) ≡ askers setup p s c
askers_fall setup p q b s c l was now others = at_one (length setup.actions) 0 (omega arith) (omega (arith, l))
  where
    f : (ℕ → Bool) → ℕ → ℕ
    f t a = if t a then counted (asks_of s c) (slot_needs setup.declared (kind_of setup.actions a)) else 0

    elsewhere : (n i : ℕ) → b < i → summed (f q) (numbers_from i n) ≡ summed (f p) (numbers_from i n)
    elsewhere zero i m = refl
    elsewhere (suc n) i m = ap (λ (t : Bool). (if t then counted (asks_of s c) (slot_needs setup.declared (kind_of setup.actions i)) else 0) + summed (f q) (numbers_from (i + 1) n)) (others i (λ e. omega (arith, e, m)))
        ∙ ap (λ (k : ℕ). f p i + k) (elsewhere n (i + 1) (omega (arith, m)))

    at_one : (n i : ℕ) → i ≤ b → b < i + n → summed (f q) (numbers_from i n) + counted (asks_of s c) (slot_needs setup.declared (kind_of setup.actions b)) ≡ summed (f p) (numbers_from i n)
    at_one zero i m k = absurd (omega (arith, m, k))
    at_one (suc n) i m k = on (cases_eq i b) (λ h. at_one n (i + 1) (omega (arith, m, h)) (omega (arith, k)))
      where
        on : (i ≡ b) ⊎ (i ≡ b → ⊥)
            → ((i ≡ b → ⊥) → summed (f q) (numbers_from (i + 1) n) + counted (asks_of s c) (slot_needs setup.declared (kind_of setup.actions b)) ≡ summed (f p) (numbers_from (i + 1) n))
            → f q i + summed (f q) (numbers_from (i + 1) n) + counted (asks_of s c) (slot_needs setup.declared (kind_of setup.actions b)) ≡ f p i + summed (f p) (numbers_from (i + 1) n)
        on (inl e) rec =
            let one : f q i ≡ 0 = ap (f q) e ∙ ap (λ (t : Bool). if t then counted (asks_of s c) (slot_needs setup.declared (kind_of setup.actions b)) else 0) now in
            let two : f p i ≡ counted (asks_of s c) (slot_needs setup.declared (kind_of setup.actions b)) = ap (f p) e ∙ ap (λ (t : Bool). if t then counted (asks_of s c) (slot_needs setup.declared (kind_of setup.actions b)) else 0) was in
            let rest = elsewhere n (i + 1) (omega (arith, e)) in
            omega (arith, one, two, rest)
        on (inr h) rec =
            let one : f q i ≡ f p i = ap (λ (t : Bool). if t then counted (asks_of s c) (slot_needs setup.declared (kind_of setup.actions i)) else 0) (others i h) in
            let rest = rec h in omega (arith, one, rest)
