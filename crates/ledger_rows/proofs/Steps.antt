-- What an entry changes of the rows of actions.
use Rattle.std.proofs.Common.{◌≡◌, ℕ, zero, suc, ◌+◌, ◌<◌, Bool, true, false, cond, not, ◌&&◌, ◌||◌, ◌==◌, List, [], ◌∷◌, length, refl, sym, ap, ◌∙◌, arith}
use Rattle.std.proofs.lemmas.Bool.{lt-ltb, true≢false}
use Rattle.std.proofs.lemmas.Grind.{common_steps}
use Rattle.std.specs.List.{list_all, list_any}
use Rattle.std.specs.Prelude.{find, is_some}
use Rattle.engine_types.specs.declared.Entry.{Entry}
use Rattle.run_model.specs.Conditions.{is_allowed, is_blocked}
use Rattle.run_model.specs.Journals.{Setup, Standing, is_free, is_well, standing}
use Rattle.run_model.specs.Legal.{next_action}
use Rattle.run_model.specs.Plans.{IsOrderly, kind_of, needs_of, slot_needs}
use Rattle.run_model.specs.Numbers.{numbers_from}
use Rattle.ledger_rows.specs.ActionRows.{is_ready, key_of, lack_at, numbers, state_at}
use Rattle.ledger_rows.specs.ActionRows.Values.{Actions}
use Rattle.ledger_rows.specs.Facts.{Facts, allowed_by, facts_of, lets_by, open_needs}
use Rattle.ledger_rows.specs.Counts.{counted}
use Rattle.ledger_rows.specs.Rows.{AreRows, StandsAs, blocked_in, is_blocked_state}
use Rattle.ledger_rows.specs.declared.action_rows.State.{State}
use Rattle.ledger_rows.proofs.Fixed.{are_blocked, unique}
use Rattle.ledger_rows.proofs.Finding.{find_same}

pub functions_same : {X : Type 0} (f g : ℕ → X) → ((a : ℕ) → f a ≡ g a) → f ≡ g
functions_same f g each = λ i a. each a i

-- the two forms are one
pub allowed_same : (setup : Setup) (past : List Entry) (a : ℕ) → is_allowed setup past a ≡ allowed_by setup (facts_of setup past) (is_blocked setup past) a
allowed_same setup past a = refl

-- nothing is lacking where all pass
none_lacking : {X : Type 0} (p : X → Bool) (xs : List X) → list_all p xs ≡ (counted (λ x. not (p x)) xs == 0)
none_lacking p [] = refl
none_lacking {X} p (x ∷ xs) = on (p x) (none_lacking p xs)
  where
    on : (t : Bool) → list_all p xs ≡ (counted (λ y. not (p y)) xs == 0) → (t && list_all p xs) ≡ ((cond (not t) (counted (λ y. not (p y)) xs + 1) (counted (λ y. not (p y)) xs)) == 0)
    on true e = e
    on false e = grind (arith, common_steps)

both_zero : (m n : ℕ) → ((m == 0) && (n == 0)) ≡ (m + n == 0)
both_zero zero n = ap (λ (k : ℕ). k == 0) (let e : n ≡ 0 + n = omega arith in e)
both_zero (suc m) n = grind (arith, common_steps)

-- an action may be claimed where it is free and lacks nothing
pub allowed_lacks : (setup : Setup) (facts : Facts) (blocked : ℕ → Bool) (a : ℕ) → allowed_by setup facts blocked a ≡ (is_free (facts.stands a) && (open_needs setup facts blocked a == 0))
allowed_lacks setup facts blocked a =
    regroup (is_free (facts.stands a)) _ _
    ∙ ap (λ (t : Bool). is_free (facts.stands a) && t)
    (ap (λ (t : Bool). t && list_all (lets_by setup facts blocked) (slot_needs setup.declared (kind_of setup.actions a))) (none_lacking (λ b. is_well (facts.stands b)) (needs_of setup.actions a))
    ∙ ap (λ (t : Bool). (counted (λ b. not (is_well (facts.stands b))) (needs_of setup.actions a) == 0) && t) (none_lacking (lets_by setup facts blocked) (slot_needs setup.declared (kind_of setup.actions a)))
    ∙ both_zero _ _)
  where
    regroup : (t u v : Bool) → (t && u && v) ≡ (t && (u && v))
    regroup true u v = refl
    regroup false u v = refl

-- what is blocked lacks something
pub any_lacks : {X : Type 0} (p q : X → Bool) (xs : List X) → ((x : X) → q x ≡ true → p x ≡ false) → list_any q xs ≡ true → (counted (λ x. not (p x)) xs == 0) ≡ false
any_lacks p q [] each e = absurd (true≢false (sym e))
any_lacks {X} p q (x ∷ xs) each e = on (q x) refl e (any_lacks p q xs each)
  where
    on : (t : Bool) → q x ≡ t → (t || list_any q xs) ≡ true → (list_any q xs ≡ true → (counted (λ y. not (p y)) xs == 0) ≡ false)
        → ((cond (not (p x)) (counted (λ y. not (p y)) xs + 1) (counted (λ y. not (p y)) xs)) == 0) ≡ false
    on true h f rec = rw (each x h) (grind (arith, common_steps))
    on false h f rec = by (p x) (rec f)
      where
        by : (t : Bool) → (counted (λ y. not (p y)) xs == 0) ≡ false → ((cond (not t) (counted (λ y. not (p y)) xs + 1) (counted (λ y. not (p y)) xs)) == 0) ≡ false
        by true r = r
        by false r = grind (arith, common_steps)

-- rows of actions find the next action, where what is blocked lacks something
module _ (setup : Setup) (orderly : IsOrderly setup.declared setup.actions) (past journal : List Entry) (rows : Actions)
    (are : AreRows setup (facts_of setup past) journal rows)
    (lacking : (a : ℕ) → a < length setup.actions → blocked_in rows a ≡ true → is_free (standing setup past a) ≡ true → (open_needs setup (facts_of setup past) (blocked_in rows) a == 0) ≡ false) where
  pub blocked_are : is_blocked setup past ≡ blocked_in rows
  blocked_are = functions_same (is_blocked setup past) (blocked_in rows) (unique setup orderly (facts_of setup past) (is_blocked setup past) (blocked_in rows) (are_blocked setup orderly past) are.blocked)

  ready_by : (st : Standing) (s : State) (lack : ℕ) → StandsAs journal st s → (is_blocked_state s ≡ true → is_free st ≡ true → (lack == 0) ≡ false) → is_some (key_of s lack) ≡ (is_free st && (lack == 0))
  ready_by st State.Free lack h k = rw h (by lack)
    where
      by : (n : ℕ) → is_some (key_of State.Free n) ≡ (n == 0)
      by zero = refl
      by (suc n) = rw (lt-ltb 0 (suc n) (omega arith)) (sym (grind (arith, common_steps)))
  ready_by st State.Blocked lack h k = sym (ap (λ (t : Bool). is_free st && t) (k refl (ap is_free h)) ∙ and_false (is_free st))
    where
      and_false : (t : Bool) → (t && false) ≡ false
      and_false true = refl
      and_false false = refl
  ready_by st State.Out lack h k = rw h refl
  ready_by st (State.Well at) lack h k = rw h.1 refl
  ready_by st State.Badly lack h k = rw h refl

  pub ready_is : (a : ℕ) → a < length setup.actions → is_ready rows a ≡ is_allowed setup past a
  ready_is a l =
      ready_by (standing setup past a) (state_at rows a) (lack_at rows a) (are.each a) (λ h k. rw (are.lacks a l) (lacking a l h k))
      ∙ ap (λ (n : ℕ). is_free (standing setup past a) && (n == 0)) (are.lacks a l)
      ∙ sym (allowed_lacks setup (facts_of setup past) (blocked_in rows) a)
      ∙ ap (λ (p : ℕ → Bool). allowed_by setup (facts_of setup past) p a) (sym blocked_are)

  pub next_is : find (is_ready rows) (numbers rows) ≡ next_action setup past
  next_is = ap (λ (n : ℕ). find (is_ready rows) (numbers_from 0 n)) are.size
      ∙ find_same (is_ready rows) (is_allowed setup past) 0 (length setup.actions) (λ k l m. ready_is k (omega (arith, m)))
