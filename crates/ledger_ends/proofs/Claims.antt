-- What a claim leaves of the rows of slots.
use Rattle.std.proofs.Common.{◌≡◌, ◌⊎◌, ℕ, ◌<◌, Bool, true, false, not, ◌&&◌, ◌==◌, List, [], ◌∷◌, length, get_or, reverse, Option, Some, None, if◌then◌else◌, refl, sym, ap, ◌∙◌, subst, inl, inr, arith}
use Rattle.std.proofs.lemmas.Bool.{cases_eq, eqb-true}
use Rattle.std.specs.Option.{option_map_or}
use Rattle.engine_types.specs.declared.Entry.{Entry}
use Rattle.run_model.specs.Conditions.{counts, is_blocked, is_pending}
use Rattle.run_model.specs.Journals.{Free, Holding, Nothing, Out, Setup, Standing, Work, holding, is_badly, is_free, is_watch_of, is_well, standing}
use Rattle.run_model.specs.Legal.{is_looked_at}
use Rattle.run_model.specs.Numbers.{numbers_from}
use Rattle.run_model.specs.Plans.{IsOrderly, kind_of, slot_needs, start_of}
use Rattle.ledger_rows.specs.ActionRows.{is_ready, lack_at, state_at}
use Rattle.ledger_rows.specs.ActionRows.Values.{Actions}
use Rattle.ledger_rows.specs.Entries.{RowsSay}
use Rattle.ledger_rows.specs.Facts.{facts_of}
use Rattle.ledger_rows.specs.Rows.{StandsAs, blocked_in, is_blocked_state}
use Rattle.ledger_rows.specs.declared.action_rows.State.{State}
use Rattle.ledger_rows.proofs.Changes.{blocked_kept}
use Rattle.ledger_rows.proofs.Entering.{claim_changes, claimed_out}
use Rattle.ledger_rows.proofs.Fixed.{any_same, are_blocked, unique}
use Rattle.ledger_rows.proofs.Turns.{ready_state}
use Rattle.slot_rows.specs.Keys.{no_slot}
use Rattle.slot_rows.specs.Slots.{AreSlots}
use Rattle.slot_rows.specs.declared.slot_row.SlotRow.{SlotRow}
use Rattle.ledger_ends.specs.Retiring.{AreSlotsWhile, IsRowWhile, Retires}
use Rattle.ledger_ends.proofs.Freshening.{marked}
use Rattle.ledger_ends.proofs.Askers.{of_while, retire_one, while_of}

module _ (setup : Setup) (journal : List Entry) (rows : Actions) (slots : List SlotRow) (a w : ℕ) (orderly : IsOrderly setup.declared setup.actions) (said : RowsSay setup journal rows)
    (are : AreSlots setup (reverse journal) slots) (inside : a < length rows.states) (ready : is_ready rows a ≡ true) (idle : holding (reverse journal) w ≡ Nothing) where
  abbrev past : List Entry
  past = reverse journal

  abbrev entry : Entry
  entry = Entry.Claim w a

  pub there : a < length setup.actions
  there = omega (arith, inside, said.size)

  free : state_at rows a ≡ State.Free
  free = ready_state (state_at rows a) (lack_at rows a) ready

  was : standing setup past a ≡ Free
  was = subst (λ (s : State). StandsAs journal (standing setup past a) s) free (said.each a)

  old_blocked : is_blocked setup past a ≡ false
  old_blocked = marked setup past journal rows orderly said a ∙ ap is_blocked_state free

  pub was_pending : is_pending setup past a ≡ true
  was_pending = ap (λ (s : Standing). is_free s && not (is_blocked setup past a)) was ∙ ap not old_blocked

  now_out : standing setup (entry ∷ past) a ≡ Out
  now_out = claimed_out setup past w a

  blocked_as : (b : ℕ) → is_blocked setup (entry ∷ past) b ≡ is_blocked setup past b
  blocked_as b = unique setup orderly (facts_of setup (entry ∷ past)) (is_blocked setup (entry ∷ past)) (is_blocked setup past) (are_blocked setup orderly (entry ∷ past))
      (blocked_kept setup (facts_of setup past) (facts_of setup (entry ∷ past)) (is_blocked setup past) a (claim_changes setup past w a)
      (ap is_badly now_out ∙ sym (ap is_badly was)) (ap is_free now_out) old_blocked (are_blocked setup orderly past)) b

  gone : is_pending setup (entry ∷ past) a ≡ false
  gone = ap (λ (s : Standing). is_free s && not (is_blocked setup (entry ∷ past) a)) now_out

  stays : (b : ℕ) → (b ≡ a → ⊥) → is_pending setup (entry ∷ past) b ≡ is_pending setup past b
  stays b n = ap (λ (s : Standing). is_free s && not (is_blocked setup (entry ∷ past) b)) ((claim_changes setup past w a).others b n) ∙ ap (λ (t : Bool). is_free (standing setup past b) && not t) (blocked_as b)

  counts_as : (s : ℕ) → counts setup (entry ∷ past) s ≡ counts setup past s
  counts_as s = by (start_of setup.actions s)
    where
      well : (b : ℕ) → (b ≡ a) ⊎ (b ≡ a → ⊥) → is_well (standing setup (entry ∷ past) b) ≡ is_well (standing setup past b)
      well b (inl e) = subst (λ (k : ℕ). is_well (standing setup (entry ∷ past) k) ≡ is_well (standing setup past k)) (sym e) (ap is_well now_out ∙ sym (ap is_well was))
      well b (inr n) = ap is_well ((claim_changes setup past w a).others b n)

      by : (o : Option ℕ) → option_map_or (λ b. is_well (standing setup (entry ∷ past) b)) o true ≡ option_map_or (λ b. is_well (standing setup past b)) o true
      by None = refl
      by (Some b) = well b (cases_eq b a)

  seen_as : (s : ℕ) → is_looked_at setup (entry ∷ past) s ≡ is_looked_at setup past s
  seen_as s = any_same (λ v. is_watch_of s (holding (entry ∷ past) v)) (λ v. is_watch_of s (holding past v)) (numbers_from 0 setup.limits.workers) (λ v m. on v (w == v) refl)
    where
      on : (v : ℕ) (x : Bool) → (w == v) ≡ x → is_watch_of s (if x then Work a else holding past v) ≡ is_watch_of s (holding past v)
      on v true e = sym (ap (is_watch_of s) (ap (holding past) (sym (eqb-true w v e)) ∙ idle))
      on v false e = refl

  pub asking : AreSlotsWhile setup past (is_pending setup past) slots
  asking = while_of setup past slots are

  asking_now : AreSlotsWhile setup (entry ∷ past) (is_pending setup past) slots
  asking_now = record { size = are.size; each = λ s l. row s (asking.each s l) }
    where
      row : (s : ℕ) → IsRowWhile setup past (is_pending setup past) s (get_or slots s no_slot) → IsRowWhile setup (entry ∷ past) (is_pending setup past) s (get_or slots s no_slot)
      row s old = record {
        counts_is = old.counts_is ∙ sym (counts_as s);
        out_is = old.out_is ∙ sym (seen_as s);
        polls_is = old.polls_is;
        healthy_is = old.healthy_is;
        completed_is = old.completed_is;
        running_is = old.running_is;
        asked_is = old.asked_is;
        goal_is = old.goal_is;
      }

  -- the rows of slots after the claim
  pub claimed : (new : List SlotRow) → Retires (slot_needs setup.declared (kind_of setup.actions a)) slots new → AreSlots setup (entry ∷ past) new
  claimed new ret = of_while setup (entry ∷ past) new
      (retire_one setup (entry ∷ past) (is_pending setup past) a slots there was_pending asking_now (is_pending setup (entry ∷ past)) new gone stays ret)
