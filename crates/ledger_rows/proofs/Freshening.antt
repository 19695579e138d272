-- What is blocked is fresh: apart from the fresh ones, the same actions are blocked.
use Rattle.std.proofs.Common.{◌≡◌, ◌⊎◌, ℕ, ◌<◌, Bool, true, false, not, ◌&&◌, ◌||◌, ◌==◌, List, [], length, get_or, set, Option, Some, None, if◌then◌else◌, refl, sym, ap, ◌∙◌, subst, inl, inr, arith}
use Rattle.std.proofs.lemmas.Bool.{cases_eq, eq-eqb, eqb-true}
use Rattle.std.proofs.lemmas.Grind.{common_steps}
use Rattle.std.specs.Prelude.{is_some}
use Rattle.run_model.specs.Journals.{Setup}
use Rattle.ledger_rows.specs.ActionRows.{state_at}
use Rattle.ledger_rows.specs.ActionRows.Values.{Actions}
use Rattle.ledger_rows.specs.Counts.{is_listed}
use Rattle.ledger_rows.specs.Facts.{stops}
use Rattle.ledger_rows.specs.Rows.{Blocks, CarriesOn, blocked_in, is_blocked_state, is_free_state, is_pending_in, was_blocked}
use Rattle.ledger_rows.specs.declared.action_rows.State.{State}

-- one more is fresh
fresh_more : (fresh more : List (Option ℕ)) (x a : ℕ) → more ≡ set fresh x (Some 0) → x < length fresh → is_pending_in more a ≡ ((a == x) || is_pending_in fresh a)
fresh_more fresh more x a e l = on (cases_eq a x)
  where
    unequal : (a ≡ x → ⊥) → (t : Bool) → (a == x) ≡ t → t ≡ false
    unequal n true h = absurd (n (eqb-true a x h))
    unequal n false h = refl

    on : (a ≡ x) ⊎ (a ≡ x → ⊥) → is_pending_in more a ≡ ((a == x) || is_pending_in fresh a)
    on (inl k) =
        let here : get_or (set fresh x (Some 0)) a None ≡ Some 0 = grind (arith, common_steps) in
        ap (λ (os : List (Option ℕ)). is_pending_in os a) e ∙ ap (λ (o : Option ℕ). is_some o) here ∙ sym (ap (λ (t : Bool). t || is_pending_in fresh a) (eq-eqb a x k))
    on (inr n) =
        let there : get_or (set fresh x (Some 0)) a None ≡ get_or fresh a None = grind (arith, common_steps) in
        ap (λ (os : List (Option ℕ)). is_pending_in os a) e ∙ ap (λ (o : Option ℕ). is_some o) there ∙ sym (ap (λ (t : Bool). t || is_pending_in fresh a) (unequal n (a == x) refl))

-- what is blocked in one step waits after it
settle : (s : State) (t f p : Bool) → ((is_blocked_state (if (is_free_state s && t) then State.Blocked else s) && not f) && not ((p && true) || (is_free_state s && t))) ≡ ((is_blocked_state s && not f) && not p)
settle State.Free true true p = refl
settle State.Free true false true = refl
settle State.Free true false false = refl
settle State.Free false f p = refl
settle State.Blocked t f true = refl
settle State.Blocked t f false = refl
settle State.Out t f p = refl
settle (State.Well at) t f p = refl
settle State.Badly t f p = refl

and_false : (t : Bool) → (t && false) ≡ false
and_false true = refl
and_false false = refl

pub and_true : (t : Bool) → (t && true) ≡ t
and_true true = refl
and_true false = refl

-- one loss is carried on, and is fresh
pub carried_before : (setup : Setup) (x : ℕ) (rows new : Actions) (pending later fresh more : List (Option ℕ)) → CarriesOn setup x rows new pending later → is_pending_in pending x ≡ true
    → more ≡ set fresh x (Some 0) → x < length fresh → (a : ℕ) → (was_blocked new more a && not (is_pending_in later a)) ≡ (was_blocked rows fresh a && not (is_pending_in pending a))
carried_before setup x rows new pending later fresh more on waits e l a =
    ap (λ (t : Bool). (blocked_in new a && not t) && not (is_pending_in later a)) (fresh_more fresh more x a e l)
    ∙ ap (λ (s : State). (is_blocked_state s && not ((a == x) || is_pending_in fresh a)) && not (is_pending_in later a)) (on.states a)
    ∙ ap (λ (t : Bool). (is_blocked_state (if (is_free_state (state_at rows a) && stops setup x a) then State.Blocked else state_at rows a) && not ((a == x) || is_pending_in fresh a)) && not t) (on.waits a)
    ∙ by (a == x) refl
  where
    by : (t : Bool) → (a == x) ≡ t
        → ((is_blocked_state (if (is_free_state (state_at rows a) && stops setup x a) then State.Blocked else state_at rows a) && not (t || is_pending_in fresh a))
        && not ((is_pending_in pending a && not t) || (is_free_state (state_at rows a) && stops setup x a)))
        ≡ (was_blocked rows fresh a && not (is_pending_in pending a))
    by false k = settle (state_at rows a) (stops setup x a) (is_pending_in fresh a) (is_pending_in pending a)
    by true k =
        let p : is_pending_in pending a ≡ true = subst (λ (i : ℕ). is_pending_in pending i ≡ true) (sym (eqb-true a x k)) waits in
        ap (λ (t : Bool). t && not ((is_pending_in pending a && false) || (is_free_state (state_at rows a) && stops setup x a)))
        (and_false (is_blocked_state (if (is_free_state (state_at rows a) && stops setup x a) then State.Blocked else state_at rows a)))
        ∙ sym (ap (λ (t : Bool). was_blocked rows fresh a && not t) p ∙ and_false (was_blocked rows fresh a))

-- some are blocked, where none waited
pub blocked_before : (xs : List ℕ) (rows middle new : Actions) (pending later fresh : List (Option ℕ)) → Blocks xs middle new pending later → middle.states ≡ rows.states
    → ((a : ℕ) → is_pending_in pending a ≡ false) → (a : ℕ) → (was_blocked new fresh a && not (is_pending_in later a)) ≡ was_blocked rows fresh a
blocked_before xs rows middle new pending later fresh blocks states none a =
    ap (λ (s : State). (is_blocked_state s && not (is_pending_in fresh a)) && not (is_pending_in later a)) (blocks.states a)
    ∙ ap (λ (t : Bool). (is_blocked_state (if (is_free_state (state_at middle a) && is_listed xs a) then State.Blocked else state_at middle a) && not (is_pending_in fresh a)) && not t)
    (blocks.waits a ∙ ap (λ (t : Bool). t || (is_free_state (state_at middle a) && is_listed xs a)) (none a))
    ∙ settle (state_at middle a) (is_listed xs a) (is_pending_in fresh a) false
    ∙ and_true (is_blocked_state (state_at middle a) && not (is_pending_in fresh a))
    ∙ ap (λ (ss : List State). is_blocked_state (get_or ss a State.Free) && not (is_pending_in fresh a)) states

-- one ended badly, which wasn't blocked, and its loss waits alone
pub ended_before : (rows new : Actions) (pending later fresh : List (Option ℕ)) (x : ℕ) → x < length rows.states → new.states ≡ set rows.states x State.Badly → later ≡ set pending x (Some 0)
    → ((a : ℕ) → is_pending_in pending a ≡ false) → blocked_in rows x ≡ false → (a : ℕ) → (was_blocked new fresh a && not (is_pending_in later a)) ≡ was_blocked rows fresh a
ended_before rows new pending later fresh x l states waits none was a = on (cases_eq a x)
  where
    on : (a ≡ x) ⊎ (a ≡ x → ⊥) → (was_blocked new fresh a && not (is_pending_in later a)) ≡ was_blocked rows fresh a
    on (inl k) =
        let here : get_or (set rows.states x State.Badly) a State.Free ≡ State.Badly = grind (arith, common_steps) in
        ap (λ (s : State). (is_blocked_state s && not (is_pending_in fresh a)) && not (is_pending_in later a)) (ap (λ (ss : List State). get_or ss a State.Free) states ∙ here)
        ∙ sym (ap (λ (t : Bool). t && not (is_pending_in fresh a)) (ap (blocked_in rows) k ∙ was))
    on (inr n) =
        let there : get_or (set rows.states x State.Badly) a State.Free ≡ get_or rows.states a State.Free = grind (arith, common_steps) in
        let free : get_or (set pending x (Some 0)) a None ≡ get_or pending a None = grind (arith, common_steps) in
        ap (λ (s : State). (is_blocked_state s && not (is_pending_in fresh a)) && not (is_pending_in later a)) (ap (λ (ss : List State). get_or ss a State.Free) states ∙ there)
        ∙ ap (λ (t : Bool). was_blocked rows fresh a && not t) (ap (λ (os : List (Option ℕ)). is_pending_in os a) waits ∙ ap (λ (o : Option ℕ). is_some o) free ∙ none a)
        ∙ and_true (was_blocked rows fresh a)
