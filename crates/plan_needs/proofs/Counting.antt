-- Counts of what actions wait for.
use Rattle.std.proofs.Common.{◌≡◌, ◌⊎◌, ℕ, zero, suc, ◌+◌, ◌<◌, ◌≤◌, Bool, true, false, cond, not, ◌&&◌, ◌||◌, ◌==◌, List, [], ◌∷◌, ◌++◌, length, take, get_or, slice_get, Option, Some, None, if◌then◌else◌, refl, sym, ap, ◌∙◌, subst, inl, inr, arith}
use Rattle.std.proofs.lemmas.Bool.{cases_lt, le-ltb, lt-ltb}
use Rattle.std.proofs.lemmas.Grind.{common_steps}
use Rattle.std.proofs.lemmas.Option.{slice_get_past}
use Rattle.std.specs.List.{list_any}
use Rattle.std.specs.Option.{option_map_or}
use Rattle.std.specs.Prelude.{nat_lt, option_map}
use Rattle.engine_types.specs.declared.Action.{Action}
use Rattle.engine_types.specs.declared.Declared.{Declared}
use Rattle.engine_types.specs.declared.Need.{Need}
use Rattle.run_model.specs.Conditions.{is_started}
use Rattle.run_model.specs.Journals.{Setup}
use Rattle.run_model.specs.Plans.{kind_of, needs_of, slot_needs, start_of}
use Rattle.ledger_rows.specs.Counts.{counted}
use Rattle.ledger_rows.specs.Facts.{frees, released_by, start_among, stops}
use Rattle.plan_needs.specs.Laws.{AreStarts}
use Rattle.plan_needs.specs.Waits.{needs_for, waited, waits_for}
use Rattle.plan_needs.specs.declared.wait.Wait.{Wait}

-- one element more
pub counted_last : {X : Type 0} (p : X → Bool) (xs : List X) (y : X) → counted p (xs ++ y ∷ []) ≡ counted p xs + (if p y then 1 else 0)
counted_last p [] y = on (p y)
  where
    on : (t : Bool) → cond {A = ℕ} t (0 + 1) 0 ≡ 0 + (if t then 1 else 0)
    on true = refl
    on false = refl
counted_last {X} p (x ∷ xs) y = on (p x) (counted_last p xs y)
  where
    on : (t : Bool) → counted p (xs ++ y ∷ []) ≡ counted p xs + (if p y then 1 else 0) → cond t (counted p (xs ++ y ∷ []) + 1) (counted p (xs ++ y ∷ [])) ≡ cond t (counted p xs + 1) (counted p xs) + (if p y then 1 else 0)
    on true e = omega (arith, e)
    on false e = e

counted_same : {X : Type 0} (p q : X → Bool) (xs : List X) → ((x : X) → p x ≡ q x) → counted p xs ≡ counted q xs
counted_same p q [] each = refl
counted_same p q (x ∷ xs) each = ap (λ (t : Bool). cond t (counted p xs + 1) (counted p xs)) (each x) ∙ ap (λ (n : ℕ). cond (q x) (n + 1) n) (counted_same p q xs each)

pub some_counted : {X : Type 0} (p : X → Bool) (xs : List X) → list_any p xs ≡ nat_lt 0 (counted p xs)
some_counted p [] = sym (le-ltb 0 0 (omega arith))
some_counted {X} p (x ∷ xs) = on (p x) (some_counted p xs)
  where
    on : (t : Bool) → list_any p xs ≡ nat_lt 0 (counted p xs) → (t || list_any p xs) ≡ nat_lt 0 (cond t (counted p xs + 1) (counted p xs))
    on true e = sym (lt-ltb 0 (counted p xs + 1) (omega arith))
    on false e = e

either_some : (m n : ℕ) → nat_lt 0 (m + n) ≡ (nat_lt 0 m || nat_lt 0 n)
either_some zero n = ap (nat_lt 0) (let e : 0 + n ≡ n = omega arith in e) ∙ sym (ap (λ (t : Bool). t || nat_lt 0 n) (le-ltb 0 0 (omega arith)))
either_some (suc m) n = lt-ltb 0 (suc m + n) (omega arith) ∙ sym (ap (λ (t : Bool). t || nat_lt 0 n) (lt-ltb 0 (suc m) (omega arith)))

module _ (setup : Setup) (starts : List (Option ℕ)) (a x : ℕ) (are : AreStarts setup starts) where
  named : (need : Need) → option_map_or (λ b. b == x) (get_or starts need.slot None) false ≡ start_among setup (λ b. b == x) need.slot
  named need = ap (λ (o : Option ℕ). option_map_or (λ b. b == x) o false) (are need.slot)

  pub required_is : nat_lt 0 (waited Wait.Required setup.declared setup.actions starts a x) ≡ stops setup x a
  required_is =
      either_some (counted (λ b. b == x) (needs_of setup.actions a)) (counted (waits_for Wait.Required starts x) (slot_needs setup.declared (kind_of setup.actions a)))
      ∙ ap (λ (t : Bool). t || nat_lt 0 (counted (waits_for Wait.Required starts x) (slot_needs setup.declared (kind_of setup.actions a)))) (sym (some_counted (λ b. b == x) (needs_of setup.actions a)))
      ∙ ap (λ (t : Bool). list_any (λ b. b == x) (needs_of setup.actions a) || t)
      (ap (nat_lt 0) (counted_same (waits_for Wait.Required starts x) (λ need. need.required && start_among setup (λ b. b == x) need.slot) (slot_needs setup.declared (kind_of setup.actions a)) (λ need. ap (λ (t : Bool). need.required && t) (named need)))
      ∙ sym (some_counted (λ need. need.required && start_among setup (λ b. b == x) need.slot) (slot_needs setup.declared (kind_of setup.actions a))))

  pub optional_is : waited Wait.Optional setup.declared setup.actions starts a x ≡ frees setup x a
  optional_is =
      let e = counted_same (waits_for Wait.Optional starts x) (λ need. not need.required && start_among setup (λ b. b == x) need.slot) (slot_needs setup.declared (kind_of setup.actions a)) (λ need. ap (λ (t : Bool). not need.required && t) (named need)) in
      omega (arith, e)

  pub started_is : waited Wait.Started setup.declared setup.actions starts a x ≡ released_by setup x a
  started_is = ap (λ (n : ℕ). counted (λ b. b == x) (needs_of setup.actions a) + n)
      (counted_same (waits_for Wait.Started starts x) (λ need. is_started need.condition && option_map_or (λ b. b == x) (start_of setup.actions need.slot) false) (slot_needs setup.declared (kind_of setup.actions a))
      (λ need. ap (λ (t : Bool). is_started need.condition && t) (named need)))

-- one need more
pub counted_more : {X : Type 0} (p : X → Bool) (xs : List X) (i : ℕ) (d : X) → i < length xs → counted p (take (i + 1) xs) ≡ counted p (take i xs) + (if p (get_or xs i d) then 1 else 0)
counted_more p [] i d l = absurd (omega arith)
counted_more p (x ∷ xs) zero d l = on (p x)
  where
    on : (t : Bool) → cond {A = ℕ} t (0 + 1) 0 ≡ 0 + (if t then 1 else 0)
    on true = refl
    on false = refl
counted_more {X} p (x ∷ xs) (suc i) d l = let h : i < length xs = omega arith in
    subst (λ (k : ℕ). counted p (take k (x ∷ xs)) ≡ counted p (take (suc i) (x ∷ xs)) + (if p (get_or xs i d) then 1 else 0)) (let e : suc (i + 1) ≡ suc i + 1 = omega arith in e)
    (on (p x) (counted p (take (i + 1) xs)) (counted p (take i xs)) (if p (get_or xs i d) then 1 else 0) (counted_more p xs i d h))
  where
    on : (t : Bool) (a b c : ℕ) → a ≡ b + c → cond t (a + 1) a ≡ cond t (b + 1) b + c
    on true a b c e = omega (arith, e)
    on false a b c e = e

-- the lists of the first actions
pub record Listed (wait : Wait) (declared : Declared) (actions : List Action) (starts : List (Option ℕ)) (lists : List (List ℕ)) (i : ℕ) : Type 0 where
  pub size : length lists ≡ i
  pub each : (a x : ℕ) → a < i → counted (λ b. b == x) (get_or lists a []) ≡ waited wait declared actions starts a x

pub kind_read : (actions : List Action) (a : ℕ) (action : Action) → a < length actions → action ≡ get_or actions a action → slice_get actions a ≡ Some action
kind_read [] a action l e = absurd (omega arith)
kind_read (x ∷ xs) zero action l e = ap (λ (y : Action). Some y) (sym e)
kind_read (x ∷ xs) (suc a) action l e = kind_read xs a action (omega arith) e

pub more_by : {X : Type 0} (p : X → Bool) (xs : List X) (i : ℕ) (d : X) → i < length xs → (m n k : ℕ) → m ≡ n + (if p (get_or xs i d) then 1 else 0) → n ≡ k + counted p (take i xs) → m ≡ k + counted p (take (i + 1) xs)
more_by p xs i d l m n k e h = let c = counted_more p xs i d l in omega (arith, e, h, c)

-- what isn't there waits for nothing
pub all_listed : (wait : Wait) (declared : Declared) (actions : List Action) (starts : List (Option ℕ)) (lists : List (List ℕ)) (i : ℕ) → length actions ≤ i → Listed wait declared actions starts lists i
    → (a x : ℕ) → counted (λ b. b == x) (get_or lists a []) ≡ waited wait declared actions starts a x
all_listed wait declared actions starts lists i end listed a x = on (cases_lt a i)
  where
    nothing : (w : Wait) (o : Option Action) → o ≡ None
        → 0 ≡ counted (λ b. b == x) (needs_for w (option_map_or (λ action. action.needs) o [])) + counted (waits_for w starts x) (slot_needs declared (option_map (λ action. action.kind) o))
    nothing Wait.Required None e = refl
    nothing Wait.Optional None e = refl
    nothing Wait.Started None e = refl
    nothing w (Some action) e = absurd (cc e)

    on : (a < i) ⊎ (i ≤ a) → counted (λ b. b == x) (get_or lists a []) ≡ waited wait declared actions starts a x
    on (inl l) = listed.each a x l
    on (inr l) = ap (counted (λ b. b == x)) (let e : get_or lists a [] ≡ [] = grind (arith, common_steps, listed.size) in e)
        ∙ nothing wait (slice_get actions a) (slice_get_past actions a (omega (arith, end, l)))
