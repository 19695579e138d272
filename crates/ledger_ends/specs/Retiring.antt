-- Needs that ask for no report any more.
use Rattle.std.specs.Prelude.{◌≡◌, ℕ, ◌+◌, ◌-◌, ◌<◌, Bool, true, if◌then◌else◌, ◌&&◌, ◌||◌, List, Option, Some, None, get_or, length}
use Rattle.engine_types.specs.declared.Condition.{Condition}
use Rattle.engine_types.specs.declared.Entry.{Entry}
use Rattle.engine_types.specs.declared.Need.{Need}
use Rattle.run_model.specs.Conditions.{counts, goal_of, is_pending, is_reported}
use Rattle.run_model.specs.Journals.{Setup, polls}
use Rattle.run_model.specs.Legal.{is_looked_at}
use Rattle.ledger_rows.specs.ActionRows.Values.{Actions}
use Rattle.ledger_rows.specs.Counts.{counted}
use Rattle.ledger_rows.specs.Facts.{askers, asks_of}
use Rattle.ledger_rows.specs.Rows.{blocked_in, is_pending_in}
use Rattle.slot_rows.specs.Keys.{no_slot}
use Rattle.slot_rows.specs.Slots.{verdict_in}
use Rattle.slot_rows.specs.declared.slot_row.SlotRow.{SlotRow}

-- how many needs of starts ask for a condition, by a slot's row
abbrev pub askers_on : Condition → SlotRow → ℕ
askers_on Condition.Healthy row = row.healthy_askers
askers_on Condition.Completed row = row.completed_askers
askers_on _ row = 0

-- a slot's row with one asker of a condition fewer
abbrev pub unasked : Condition → SlotRow → SlotRow
unasked Condition.Healthy row = record row { healthy_askers = row.healthy_askers - 1 }
unasked Condition.Completed row = record row { completed_askers = row.completed_askers - 1 }
unasked _ row = row

-- a slot's row but for its askers
abbrev pub without_askers : SlotRow → SlotRow
without_askers row = record row { healthy_askers = 0; completed_askers = 0 }

-- these needs ask for no report any more, and nothing else of the slots changes
pub record Retires (needs : List Need) (slots new : List SlotRow) : Type 0 where
  pub size : length new ≡ length slots
  pub asked : (s : ℕ) (c : Condition) → s < length slots → is_reported c ≡ true
      → askers_on c (get_or new s no_slot) + counted (asks_of s c) needs
      ≡ askers_on c (get_or slots s no_slot)
  pub others : (s : ℕ)
      → without_askers (get_or new s no_slot) ≡ without_askers (get_or slots s no_slot)

-- a slot's row says what these entries say, and how many needs of these actions ask for a report
pub record IsRowWhile (setup : Setup) (past : List Entry) (asking : ℕ → Bool) (s : ℕ)
    (row : SlotRow) : Type 0 where
  pub counts_is : row.counts ≡ counts setup past s
  pub out_is : row.out ≡ is_looked_at setup past s
  pub polls_is : row.polls ≡ polls past s
  pub healthy_is : row.healthy ≡ verdict_in setup past s Condition.Healthy
  pub completed_is : row.completed ≡ verdict_in setup past s Condition.Completed
  pub running_is : row.running ≡ verdict_in setup past s Condition.Running
  pub asked_is : (c : Condition) → is_reported c ≡ true
      → askers_on c row ≡ askers setup asking s c
  pub goal_is : row.goal ≡ (if setup.limits.wait then Some (goal_of setup s) else None)

-- the rows of all slots do
pub record AreSlotsWhile (setup : Setup) (past : List Entry) (asking : ℕ → Bool)
    (rows : List SlotRow) : Type 0 where
  pub size : length rows ≡ length setup.declared.slots
  pub each : (s : ℕ) → s < length setup.declared.slots
      → IsRowWhile setup past asking s (get_or rows s no_slot)

-- what a run is of, and its entries, newest first
pub record History : Type 0 where
  pub setup : Setup
  pub past : List Entry

-- the actions whose needs still ask, by the rows: those that are still to come, and those that were blocked just now
abbrev pub still_asks : History → Actions → List (Option ℕ) → ℕ → Bool
still_asks run rows fresh a =
    is_pending run.setup run.past a || (blocked_in rows a && is_pending_in fresh a)
