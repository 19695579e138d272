-- The needs of those that were just blocked ask no more.
use Rattle.std.proofs.Common.{◌≡◌, ◌⊎◌, ℕ, ◌<◌, Bool, true, false, not, ◌&&◌, ◌||◌, ◌==◌, List, [], length, get_or, set, Option, Some, None, refl, sym, ap, ◌∙◌, subst, inl, inr, arith}
use Rattle.std.proofs.lemmas.Bool.{cases_eq, true≢false}
use Rattle.std.proofs.lemmas.Grind.{common_steps}
use Rattle.std.specs.Prelude.{is_some}
use Rattle.engine_types.specs.declared.Entry.{Entry}
use Rattle.run_model.specs.Conditions.{is_blocked, is_pending}
use Rattle.run_model.specs.Journals.{Setup, is_free, standing}
use Rattle.run_model.specs.Plans.{IsOrderly, kind_of, slot_needs}
use Rattle.ledger_rows.specs.ActionRows.{state_at}
use Rattle.ledger_rows.specs.ActionRows.Values.{Actions}
use Rattle.ledger_rows.specs.Facts.{Facts, facts_of, has_cause}
use Rattle.ledger_rows.specs.Rows.{AreRows, blocked_in, is_blocked_state, is_pending_in, was_blocked}
use Rattle.ledger_rows.specs.declared.action_rows.State.{State}
use Rattle.ledger_rows.proofs.Fixed.{are_blocked, unique}
use Rattle.ledger_rows.proofs.Steps.{functions_same}
use Rattle.slot_rows.specs.declared.slot_row.SlotRow.{SlotRow}
use Rattle.ledger_ends.specs.Retiring.{AreSlotsWhile, History, Retires, still_asks}
use Rattle.ledger_ends.proofs.Askers.{retire_one, while_same}

and_false : (t : Bool) → (t && false) ≡ false
and_false true = refl
and_false false = refl

-- what is blocked is marked so
pub marked : (setup : Setup) (past journal : List Entry) (rows : Actions) → IsOrderly setup.declared setup.actions → AreRows setup (facts_of setup past) journal rows → (a : ℕ) → is_blocked setup past a ≡ blocked_in rows a
marked setup past journal rows orderly are a = unique setup orderly (facts_of setup past) (is_blocked setup past) (blocked_in rows) (are_blocked setup orderly past) are.blocked a

-- what is marked so isn't to come any more
pub marked_gone : (setup : Setup) (past journal : List Entry) (rows : Actions) → IsOrderly setup.declared setup.actions → AreRows setup (facts_of setup past) journal rows → (a : ℕ) → blocked_in rows a ≡ true → is_pending setup past a ≡ false
marked_gone setup past journal rows orderly are a h = ap (λ (t : Bool). is_free (standing setup past a) && not t) (marked setup past journal rows orderly are a ∙ h) ∙ and_false (is_free (standing setup past a))

-- those that were to come are still to come, or were just blocked
pub still_same : (setup : Setup) (past later before after : List Entry) (rows new : Actions) (fresh more : List (Option ℕ)) → IsOrderly setup.declared setup.actions
    → AreRows setup (facts_of setup past) before rows → AreRows setup (facts_of setup later) after new → ((a : ℕ) → is_free (standing setup later a) ≡ is_free (standing setup past a))
    → ((a : ℕ) → was_blocked new more a ≡ was_blocked rows fresh a) → ((a : ℕ) → is_pending_in fresh a ≡ false)
    → (a : ℕ) → is_pending setup past a ≡ still_asks (record { setup = setup; past = later }) new more a
still_same setup past later before after rows new fresh more orderly are now free was none a =
    ap (λ (t : Bool). is_free (standing setup past a) && not t) (marked setup past before rows orderly are a)
    ∙ ap (λ (t : Bool). t && not (blocked_in rows a)) (sym (free a))
    ∙ sym (by (is_free (standing setup later a)) (blocked_in new a) (is_pending_in more a) (blocked_in rows a) blocked_free (was a ∙ ap (λ (t : Bool). blocked_in rows a && not t) (none a) ∙ and_true (blocked_in rows a)))
    ∙ ap (λ (t : Bool). (is_free (standing setup later a) && not t) || (blocked_in new a && is_pending_in more a)) (sym (marked setup later after new orderly now a))
  where
    and_true : (t : Bool) → (t && true) ≡ t
    and_true true = refl
    and_true false = refl

    blocked_free : blocked_in new a ≡ true → is_free (standing setup later a) ≡ true
    blocked_free h = on (is_free (standing setup later a)) (sym (now.blocked.each a) ∙ h)
      where
        on : (t : Bool) → (t && has_cause setup (facts_of setup later) (blocked_in new) a) ≡ true → t ≡ true
        on true k = refl
        on false k = k

    by : (f b r o : Bool) → (b ≡ true → f ≡ true) → (b && not r) ≡ o → ((f && not b) || (b && r)) ≡ (f && not o)
    by f false r o h e = ap (λ (t : Bool). (f && true) || t) refl ∙ or_false (f && true) ∙ ap (λ (t : Bool). f && not t) e
      where
        or_false : (t : Bool) → (t || false) ≡ t
        or_false true = refl
        or_false false = refl
    by true true true o h e = ap (λ (t : Bool). true && not t) e
    by true true false o h e = ap (λ (t : Bool). true && not t) e
    by false true r o h e = absurd (true≢false (sym (h refl)))

-- one that was just blocked is taken out
module _ (run : History) (rows : Actions) (fresh : List (Option ℕ)) (x : ℕ) (slots : List SlotRow) (inside : x < length fresh) (size : length fresh ≡ length run.setup.actions) (found : is_pending_in fresh x ≡ true)
    (gone : (a : ℕ) → blocked_in rows a ≡ true → is_pending run.setup run.past a ≡ false) (are : AreSlotsWhile run.setup run.past (still_asks run rows fresh) slots) where
  there : x < length run.setup.actions
  there = omega (arith, inside, size)

  out : is_pending_in (set fresh x None) x ≡ false
  out = let here : get_or (set fresh x None) x None ≡ None = grind (arith, common_steps) in ap (λ (o : Option ℕ). is_some o) here

  stays : (a : ℕ) → (a ≡ x → ⊥) → is_pending_in (set fresh x None) a ≡ is_pending_in fresh a
  stays a n = let kept : get_or (set fresh x None) a None ≡ get_or fresh a None = grind (arith, common_steps) in ap (λ (o : Option ℕ). is_some o) kept

  -- it asked
  pub asked_before : blocked_in rows x ≡ true → still_asks run rows fresh x ≡ true
  asked_before h = ap (λ (t : Bool). is_pending run.setup run.past x || (t && is_pending_in fresh x)) h ∙ ap (λ (t : Bool). is_pending run.setup run.past x || t) found ∙ or_true (is_pending run.setup run.past x)
    where
      or_true : (t : Bool) → (t || true) ≡ true
      or_true true = refl
      or_true false = refl

  pub asks_no_more : (new : List SlotRow) → blocked_in rows x ≡ true → Retires (slot_needs run.setup.declared (kind_of run.setup.actions x)) slots new → AreSlotsWhile run.setup run.past (still_asks run rows (set fresh x None)) new
  asks_no_more new h ret = retire_one run.setup run.past (still_asks run rows fresh) x slots there (asked_before h) are (still_asks run rows (set fresh x None)) new
      (ap (λ (t : Bool). t || (blocked_in rows x && is_pending_in (set fresh x None) x)) (gone x h) ∙ ap (λ (t : Bool). blocked_in rows x && t) out ∙ and_false (blocked_in rows x))
      (λ a n. ap (λ (t : Bool). is_pending run.setup run.past a || (blocked_in rows a && t)) (stays a n)) ret

  pub never_asked : blocked_in rows x ≡ false → AreSlotsWhile run.setup run.past (still_asks run rows (set fresh x None)) slots
  never_asked h = while_same run.setup run.past (still_asks run rows fresh) (still_asks run rows (set fresh x None)) slots (λ a. on a (cases_eq a x)) are
    where
      on : (a : ℕ) → (a ≡ x) ⊎ (a ≡ x → ⊥) → still_asks run rows fresh a ≡ still_asks run rows (set fresh x None) a
      on a (inl e) =
          let b : blocked_in rows a ≡ false = ap (blocked_in rows) e ∙ h in
          ap (λ (t : Bool). is_pending run.setup run.past a || (t && is_pending_in fresh a)) b ∙ sym (ap (λ (t : Bool). is_pending run.setup run.past a || (t && is_pending_in (set fresh x None) a)) b)
      on a (inr n) = sym (ap (λ (t : Bool). is_pending run.setup run.past a || (blocked_in rows a && t)) (stays a n))

-- where none is fresh, those ask that are to come
pub none_fresh : (run : History) (rows : Actions) (fresh : List (Option ℕ)) (slots : List SlotRow) → ((a : ℕ) → is_pending_in fresh a ≡ false) → AreSlotsWhile run.setup run.past (still_asks run rows fresh) slots
    → AreSlotsWhile run.setup run.past (is_pending run.setup run.past) slots
none_fresh run rows fresh slots none are = while_same run.setup run.past (still_asks run rows fresh) (is_pending run.setup run.past) slots
    (λ a. ap (λ (t : Bool). is_pending run.setup run.past a || (blocked_in rows a && t)) (none a) ∙ ap (λ (t : Bool). is_pending run.setup run.past a || t) (and_false (blocked_in rows a)) ∙ or_false (is_pending run.setup run.past a)) are
  where
    or_false : (t : Bool) → (t || false) ≡ t
    or_false true = refl
    or_false false = refl

-- a state that isn't Blocked
pub not_blocked : (s : State) → (s ≡ State.Blocked → ⊥) → is_blocked_state s ≡ false
not_blocked State.Free n = refl
not_blocked State.Blocked n = absurd (n refl)
not_blocked State.Out n = refl
not_blocked (State.Well at) n = refl
not_blocked State.Badly n = refl
