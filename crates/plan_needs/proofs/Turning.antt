-- What actions wait for, turned round.
use Rattle.std.proofs.Common.{◌≡◌, ◌⊎◌, ℕ, zero, suc, ◌+◌, ◌<◌, ◌≤◌, Bool, true, false, cond, ◌==◌, List, [], ◌∷◌, length, get_or, slice_get, Option, Some, None, refl, ap, ◌∙◌, inl, inr, arith}
use Rattle.std.proofs.lemmas.Bool.{cases_lt, eq-eqb}
use Rattle.std.proofs.lemmas.Option.{slice_get_past}
use Rattle.std.specs.Option.{option_map_or}
use Rattle.std.specs.Prelude.{nat_lt, option_map}
use Rattle.engine_types.specs.declared.Action.{Action}
use Rattle.run_model.specs.Journals.{Setup}
use Rattle.run_model.specs.Plans.{slot_needs}
use Rattle.ledger_rows.specs.Counts.{counted}
use Rattle.ledger_rows.specs.Entries.{AreReleased}
use Rattle.ledger_rows.specs.Rows.{IsNet}
use Rattle.plan_needs.specs.Laws.{AreStarts, AreTurned}
use Rattle.plan_needs.specs.Waits.{needs_for, waited, waits_for}
use Rattle.plan_needs.specs.declared.wait.Wait.{Wait}
use Rattle.plan_needs.proofs.Counting.{optional_is, required_is, some_counted, started_is}

-- what isn't there waits for nothing
waited_past : (wait : Wait) (setup : Setup) (starts : List (Option ℕ)) (a x : ℕ) → length setup.actions ≤ a → waited wait setup.declared setup.actions starts a x ≡ 0
waited_past wait setup starts a x l = by wait (slice_get setup.actions a) (slice_get_past setup.actions a l)
  where
    by : (w : Wait) (o : Option Action) → o ≡ None
        → counted (λ b. b == x) (needs_for w (option_map_or (λ action. action.needs) o [])) + counted (waits_for w starts x) (slot_needs setup.declared (option_map (λ action. action.kind) o)) ≡ 0
    by Wait.Required None e = refl
    by Wait.Optional None e = refl
    by Wait.Started None e = refl
    by w (Some action) e = absurd (cc e)

-- what stands in a list is counted
counted_there : (xs : List ℕ) (i a : ℕ) → slice_get xs i ≡ Some a → counted (λ b. b == a) xs ≡ 0 → ⊥
counted_there [] i a e z = cc e
counted_there (x ∷ xs) zero a e z =
    let same : x ≡ a = cc e in
    let one : counted (λ b. b == a) (x ∷ xs) ≡ counted (λ b. b == a) xs + 1 = ap (λ (t : Bool). cond t (counted (λ b. b == a) xs + 1) (counted (λ b. b == a) xs)) (eq-eqb x a same) in
    omega (arith, one, z)
counted_there (x ∷ xs) (suc i) a e z = counted_there xs i a e (by (x == a) z)
  where
    by : (t : Bool) → cond t (counted (λ b. b == a) xs + 1) (counted (λ b. b == a) xs) ≡ 0 → counted (λ b. b == a) xs ≡ 0
    by true k = absurd (omega (arith, k))
    by false k = k

-- only what is there stands in such rows
inside : (wait : Wait) (setup : Setup) (starts : List (Option ℕ)) (rows : List (List ℕ)) → AreTurned wait setup starts rows → (x i a : ℕ) → slice_get (get_or rows x []) i ≡ Some a → a < length setup.actions
inside wait setup starts rows turned x i a e = by (cases_lt a (length setup.actions))
  where
    by : (a < length setup.actions) ⊎ (length setup.actions ≤ a) → a < length setup.actions
    by (inl l) = l
    by (inr l) = absurd (counted_there (get_or rows x []) i a e (turned x a ∙ waited_past wait setup starts a x l))

pub net : (setup : Setup) (starts : List (Option ℕ)) (stopped freed : List (List ℕ)) → AreStarts setup starts → length stopped ≡ length setup.actions → length freed ≡ length setup.actions
    → AreTurned Wait.Required setup starts stopped → AreTurned Wait.Optional setup starts freed → IsNet setup stopped freed
net setup starts stopped freed are stopped_size freed_size stops_turned frees_turned = record {
  stopped_there = inside Wait.Required setup starts stopped stops_turned;
  freed_there = inside Wait.Optional setup starts freed frees_turned;
  stopped_size = stopped_size;
  freed_size = freed_size;
  stopped_are = λ x a. some_counted (λ b. b == a) (get_or stopped x []) ∙ ap (nat_lt 0) (stops_turned x a) ∙ required_is setup starts a x are;
  freed_are = λ x a. frees_turned x a ∙ optional_is setup starts a x are;
}

pub released : (setup : Setup) (starts : List (Option ℕ)) (rows : List (List ℕ)) (x : ℕ) → AreStarts setup starts → AreTurned Wait.Started setup starts rows → AreReleased setup x (get_or rows x [])
released setup starts rows x are turned = record {
  there = inside Wait.Started setup starts rows turned x;
  each = λ b. turned x b ∙ started_is setup starts b x are;
}
