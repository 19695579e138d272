-- What an ask is answered, by the rows.
use Rattle.std.proofs.Common.{◌≡◌, ℕ, ◌<◌, ◌≤◌, Bool, true, false, not, ◌&&◌, ◌==◌, List, length, map, reverse, get_or, Option, Some, None, refl, sym, ap, ◌∙◌}
use Rattle.std.proofs.lemmas.Bool.{le-leb, lt-leb}
use Rattle.std.proofs.lemmas.List.{length-reverse}
use Rattle.std.specs.List.{list_any}
use Rattle.std.specs.Prelude.{find, nat_le}
use Rattle.tree_base.specs.Limits.{most_entries}
use Rattle.tree_base.specs.Reserved.{Reserved}
use Rattle.engine_types.specs.declared.Entry.{Entry}
use Rattle.run_model.specs.Journals.{Setup, is_ending}
use Rattle.run_model.specs.Legal.{Decision, Full, Go, Look, Take, answer_to, decision, is_other_out, next_action, next_poll}
use Rattle.run_model.specs.Numbers.{places}
use Rattle.rank_rows.specs.Ranks.{least}
use Rattle.ledger_rows.specs.ActionRows.{is_ready, numbers}
use Rattle.ledger_rows.specs.ActionRows.Values.{Actions}
use Rattle.ledger_rows.specs.Facts.{facts_of}
use Rattle.ledger_rows.specs.Workers.{no_worker}
use Rattle.ledger_core.specs.Ledgers.{IsLedger}
use Rattle.ledger_rows.specs.Rows.{blocked_in}
use Rattle.ledger_rows.specs.declared.worker_row.WorkerRow.{WorkerRow}
use Rattle.ledger_rows.proofs.Changes.{blocked_lacks}
use Rattle.ledger_rows.proofs.Steps.{next_is}
use Rattle.ledger_rows.proofs.Turns.{sound_of}
use Rattle.ledger_rows.proofs.Watching.{other_out}
use Rattle.slot_rows.specs.Keys.{slot_key}
use Rattle.slot_rows.specs.declared.slot_row.SlotRow.{SlotRow}
use Rattle.slot_rows.proofs.Polling.{first_polled}

module _ (setup : Setup) (journal : Reserved Entry) (rows : Actions) (slots : List SlotRow) (workers : List WorkerRow) (ending : Bool) (is : IsLedger setup journal rows slots workers ending) where
  pub action_is : find (is_ready rows) (numbers rows) ≡ next_action setup (reverse journal.items)
  action_is = next_is setup is.orderly (reverse journal.items) journal.items rows is.actions
      (λ a l h k. blocked_lacks setup (facts_of setup (reverse journal.items)) (blocked_in rows) is.actions.blocked (sound_of is.aim setup (reverse journal.items) is.legal) a h)

  pub poll_is : least (map slot_key slots) ≡ next_poll setup (reverse journal.items)
  poll_is = first_polled setup (reverse journal.items) slots is.watched

  pub out_is : (w : ℕ) → list_any (λ v. not (v == w) && (get_or workers v no_worker).out) (places workers) ≡ is_other_out setup (reverse journal.items) w
  out_is w = other_out setup (reverse journal.items) w workers is.workers_size is.each_worker

  long : (t : Bool) → nat_le most_entries (length journal.items) ≡ t → nat_le most_entries (length (reverse journal.items)) ≡ t
  long t h = ap (nat_le most_entries) (length-reverse journal.items) ∙ h

  answered : (w : ℕ) (t e : Bool) (a s : Option ℕ) (o : Bool) → nat_le most_entries (length journal.items) ≡ t → is_ending (reverse journal.items) ≡ e → next_action setup (reverse journal.items) ≡ a
      → next_poll setup (reverse journal.items) ≡ s → is_other_out setup (reverse journal.items) w ≡ o → decision setup (reverse journal.items) w ≡ answer_to t e a s o
  answered w t e a s o ht he ha hs ho =
      ap (λ (x : Bool). answer_to x (is_ending (reverse journal.items)) (next_action setup (reverse journal.items)) (next_poll setup (reverse journal.items)) (is_other_out setup (reverse journal.items) w)) (long t ht)
      ∙ ap (λ (x : Bool). answer_to t x (next_action setup (reverse journal.items)) (next_poll setup (reverse journal.items)) (is_other_out setup (reverse journal.items) w)) he
      ∙ ap (λ (x : Option ℕ). answer_to t e x (next_poll setup (reverse journal.items)) (is_other_out setup (reverse journal.items) w)) ha
      ∙ ap (λ (x : Option ℕ). answer_to t e a x (is_other_out setup (reverse journal.items) w)) hs
      ∙ ap (λ (x : Bool). answer_to t e a s x) ho

  pub decides_full : (w : ℕ) → 1000000 ≤ length journal.items → Full ≡ decision setup (reverse journal.items) w
  decides_full w l = sym (answered w true (is_ending (reverse journal.items)) _ _ _ (le-leb most_entries (length journal.items) l) refl refl refl refl)

  pub decides_end : (w : ℕ) → length journal.items < 1000000 → ending ≡ true → Go ≡ decision setup (reverse journal.items) w
  decides_end w l e = sym (answered w false true _ _ _ (lt-leb most_entries (length journal.items) l) (sym is.ending_is ∙ e) refl refl refl)

  pub decides_take : (w a : ℕ) → length journal.items < 1000000 → ending ≡ false → Some a ≡ find (is_ready rows) (numbers rows) → Take a ≡ decision setup (reverse journal.items) w
  decides_take w a l e h = sym (answered w false false (Some a) _ _ (lt-leb most_entries (length journal.items) l) (sym is.ending_is ∙ e) (sym action_is ∙ sym h) refl refl)

  pub decides_look : (w s : ℕ) → length journal.items < 1000000 → ending ≡ false → None ≡ find (is_ready rows) (numbers rows) → Some s ≡ least (map slot_key slots) → Look s ≡ decision setup (reverse journal.items) w
  decides_look w s l e h k = sym (answered w false false None (Some s) _ (lt-leb most_entries (length journal.items) l) (sym is.ending_is ∙ e) (sym action_is ∙ sym h) (sym poll_is ∙ sym k) refl)

  pub decides_last : (w : ℕ) (t : Bool) (d : Decision) → length journal.items < 1000000 → ending ≡ false → None ≡ find (is_ready rows) (numbers rows) → None ≡ least (map slot_key slots)
      → list_any (λ v. not (v == w) && (get_or workers v no_worker).out) (places workers) ≡ t → d ≡ answer_to false false None None t → d ≡ decision setup (reverse journal.items) w
  decides_last w t d l e h k o i = i ∙ sym (answered w false false None None t (lt-leb most_entries (length journal.items) l) (sym is.ending_is ∙ e) (sym action_is ∙ sym h) (sym poll_is ∙ sym k) (sym (out_is w) ∙ o))
