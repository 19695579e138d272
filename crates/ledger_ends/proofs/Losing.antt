-- What an end that isn't good leaves of the rows of slots.
use Rattle.std.proofs.Common.{◌≡◌, ◌⊎◌, ℕ, ◌<◌, Bool, true, false, not, ◌&&◌, ◌||◌, ◌==◌, List, [], ◌∷◌, ◌++◌, length, get_or, reverse, Option, Some, None, if◌then◌else◌, refl, sym, ap, ◌∙◌, subst, inl, inr, arith}
use Rattle.std.proofs.lemmas.Bool.{cases_eq, eqb-true}
use Rattle.std.proofs.lemmas.List.{reverse-append}
use Rattle.std.specs.Option.{option_map_or}
use Rattle.engine_types.specs.declared.Condition.{Condition}
use Rattle.engine_types.specs.declared.Entry.{Entry}
use Rattle.engine_types.specs.declared.Outcome.{Outcome}
use Rattle.run_model.specs.Conditions.{counts, has_failed, is_pending, was_met}
use Rattle.run_model.specs.Journals.{Badly, Holding, Nothing, Out, Setup, Work, ended_as, holding, is_free, is_watch_of, is_well, standing}
use Rattle.run_model.specs.Legal.{is_looked_at}
use Rattle.run_model.specs.Numbers.{numbers_from}
use Rattle.run_model.specs.Plans.{IsOrderly, kind_of, start_of}
use Rattle.ledger_rows.specs.ActionRows.Values.{Actions}
use Rattle.ledger_rows.specs.Entries.{IsDueTo, RowsSay}
use Rattle.ledger_rows.specs.Facts.{ChangesOne, facts_of}
use Rattle.ledger_rows.specs.Rows.{AreRows, is_pending_in, was_blocked}
use Rattle.ledger_rows.proofs.Entering.{ended_changes, ended_stands}
use Rattle.ledger_rows.proofs.Fixed.{any_same}
use Rattle.ledger_rows.proofs.Turns.{was_out}
use Rattle.slot_rows.specs.Keys.{no_slot}
use Rattle.slot_rows.specs.Slots.{AreSlots, verdict_by, verdict_in}
use Rattle.slot_rows.specs.declared.slot_row.SlotRow.{SlotRow}
use Rattle.ledger_ends.specs.Retiring.{AreSlotsWhile, IsRowWhile, still_asks}
use Rattle.ledger_ends.proofs.Freshening.{marked_gone, still_same}
use Rattle.ledger_ends.proofs.Askers.{while_of, while_same}

-- rows that say what a longer journal says do so of its newest entry and those before it
pub said_of : (setup : Setup) (journal : List Entry) (entry : Entry) (rows : Actions) → RowsSay setup (journal ++ entry ∷ []) rows → AreRows setup (facts_of setup (entry ∷ reverse journal)) (journal ++ entry ∷ []) rows
said_of setup journal entry rows said = subst (λ (past : List Entry). AreRows setup (facts_of setup past) (journal ++ entry ∷ []) rows) (reverse-append journal (entry ∷ [])) said

module _ (setup : Setup) (journal : List Entry) (rows new : Actions) (slots : List SlotRow) (fresh more : List (Option ℕ)) (a w : ℕ) (outcome : Outcome) (orderly : IsOrderly setup.declared setup.actions)
    (said : RowsSay setup journal rows) (are : AreSlots setup (reverse journal) slots) (inside : a < length rows.states) (due : IsDueTo setup journal w a) (bad : ended_as (kind_of setup.actions a) outcome ≡ Badly)
    (now : RowsSay setup (journal ++ Entry.Ended w outcome ∷ []) new) (before : (b : ℕ) → was_blocked new more b ≡ was_blocked rows fresh b) (none : (b : ℕ) → is_pending_in fresh b ≡ false) where
  abbrev past : List Entry
  past = reverse journal

  abbrev entry : Entry
  entry = Entry.Ended w outcome

  out : standing setup past a ≡ Out
  out = was_out setup journal rows a w said inside due

  lost : standing setup (entry ∷ past) a ≡ Badly
  lost = ended_stands setup past w a outcome due.held ∙ bad

  changes : ChangesOne (facts_of setup past) (facts_of setup (entry ∷ past)) a
  changes = ended_changes setup past w a outcome due.held

  -- what is marked as blocked isn't to come
  pub gone : (b : ℕ) → Rattle.ledger_rows.specs.Rows.blocked_in new b ≡ true → is_pending setup (entry ∷ past) b ≡ false
  gone b h = marked_gone setup (entry ∷ past) (journal ++ entry ∷ []) new orderly (said_of setup journal entry new now) b h

  free_as : (b : ℕ) → (b ≡ a) ⊎ (b ≡ a → ⊥) → is_free (standing setup (entry ∷ past) b) ≡ is_free (standing setup past b)
  free_as b (inl e) = subst (λ (k : ℕ). is_free (standing setup (entry ∷ past) k) ≡ is_free (standing setup past k)) (sym e) (ap is_free lost ∙ sym (ap is_free out))
  free_as b (inr n) = ap is_free (changes.others b n)

  counts_as : (s : ℕ) → counts setup (entry ∷ past) s ≡ counts setup past s
  counts_as s = by (start_of setup.actions s)
    where
      well : (b : ℕ) → (b ≡ a) ⊎ (b ≡ a → ⊥) → is_well (standing setup (entry ∷ past) b) ≡ is_well (standing setup past b)
      well b (inl e) = subst (λ (k : ℕ). is_well (standing setup (entry ∷ past) k) ≡ is_well (standing setup past k)) (sym e) (ap is_well lost ∙ sym (ap is_well out))
      well b (inr n) = ap is_well (changes.others b n)

      by : (o : Option ℕ) → option_map_or (λ b. is_well (standing setup (entry ∷ past) b)) o true ≡ option_map_or (λ b. is_well (standing setup past b)) o true
      by None = refl
      by (Some b) = well b (cases_eq b a)

  seen_as : (s : ℕ) → is_looked_at setup (entry ∷ past) s ≡ is_looked_at setup past s
  seen_as s = any_same (λ v. is_watch_of s (holding (entry ∷ past) v)) (λ v. is_watch_of s (holding past v)) (numbers_from 0 setup.limits.workers) (λ v m. on v (w == v) refl)
    where
      on : (v : ℕ) (x : Bool) → (w == v) ≡ x → is_watch_of s (if x then Nothing else holding past v) ≡ is_watch_of s (holding past v)
      on v true e = sym (ap (is_watch_of s) (ap (holding past) (sym (eqb-true w v e)) ∙ due.held))
      on v false e = refl

  verdict_as : (s : ℕ) (c : Condition) → verdict_in setup (entry ∷ past) s c ≡ verdict_in setup past s c
  verdict_as s c = ap (λ (p : ℕ → Condition → Bool). verdict_by (p s c) (was_met setup (entry ∷ past) s c)) changes.failed ∙ ap (λ (p : ℕ → Condition → Bool). verdict_by (has_failed setup past s c) (p s c)) changes.met

  -- the rows of slots say what the journal says with the end, while the needs of those that were just blocked still ask
  pub asking : AreSlotsWhile setup (entry ∷ past) (still_asks (record { setup = setup; past = entry ∷ past }) new more) slots
  asking = while_same setup (entry ∷ past) (is_pending setup past) (still_asks (record { setup = setup; past = entry ∷ past }) new more) slots
      (still_same setup past (entry ∷ past) journal (journal ++ entry ∷ []) rows new fresh more orderly said (said_of setup journal entry new now) (λ b. free_as b (cases_eq b a)) before none)
      (record { size = are.size; each = λ s l. row s ((while_of setup past slots are).each s l) })
    where
      row : (s : ℕ) → IsRowWhile setup past (is_pending setup past) s (get_or slots s no_slot) → IsRowWhile setup (entry ∷ past) (is_pending setup past) s (get_or slots s no_slot)
      row s old = record {
        counts_is = old.counts_is ∙ sym (counts_as s);
        out_is = old.out_is ∙ sym (seen_as s);
        polls_is = old.polls_is;
        healthy_is = old.healthy_is ∙ sym (verdict_as s Condition.Healthy);
        completed_is = old.completed_is ∙ sym (verdict_as s Condition.Completed);
        running_is = old.running_is ∙ sym (verdict_as s Condition.Running);
        asked_is = old.asked_is;
        goal_is = old.goal_is;
      }
