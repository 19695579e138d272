-- What the rows of slots say of a journal.
use Rattle.std.specs.Prelude.{◌≡◌, ℕ, ◌<◌, Bool, true, false, if◌then◌else◌, List, Option, Some, None, get_or, length}
use Rattle.engine_types.specs.declared.Condition.{Condition}
use Rattle.engine_types.specs.declared.Entry.{Entry}
use Rattle.run_model.specs.Conditions.{counts, goal_of, has_failed, is_pending, was_met}
use Rattle.run_model.specs.Journals.{Setup, polls}
use Rattle.run_model.specs.Legal.{is_looked_at}
use Rattle.run_model.specs.declared.verdict.Verdict.{Verdict}
use Rattle.ledger_rows.specs.Facts.{askers}
use Rattle.slot_rows.specs.Keys.{no_slot}
use Rattle.slot_rows.specs.declared.slot_row.SlotRow.{SlotRow}

-- the verdict of all reports: what has failed stays so
abbrev pub verdict_by : Bool → Bool → Verdict
verdict_by true met = Verdict.Failed
verdict_by false true = Verdict.Met
verdict_by false false = Verdict.NotYet

-- the verdict of the reports in these entries
abbrev pub verdict_in : Setup → List Entry → ℕ → Condition → Verdict
verdict_in setup past s condition =
    verdict_by (has_failed setup past s condition) (was_met setup past s condition)

-- a slot's row says what these entries say
pub record IsSlotRow (setup : Setup) (past : List Entry) (s : ℕ) (row : SlotRow) : Type 0 where
  pub counts_is : row.counts ≡ counts setup past s
  pub out_is : row.out ≡ is_looked_at setup past s
  pub polls_is : row.polls ≡ polls past s
  pub healthy_is : row.healthy ≡ verdict_in setup past s Condition.Healthy
  pub completed_is : row.completed ≡ verdict_in setup past s Condition.Completed
  pub running_is : row.running ≡ verdict_in setup past s Condition.Running
  pub healthy_askers_is : row.healthy_askers
      ≡ askers setup (is_pending setup past) s Condition.Healthy
  pub completed_askers_is : row.completed_askers
      ≡ askers setup (is_pending setup past) s Condition.Completed
  pub goal_is : row.goal ≡ (if setup.limits.wait then Some (goal_of setup s) else None)

-- the rows of all slots do
pub record AreSlots (setup : Setup) (past : List Entry) (rows : List SlotRow) : Type 0 where
  pub size : length rows ≡ length setup.declared.slots
  pub each : (s : ℕ) → s < length setup.declared.slots
      → IsSlotRow setup past s (get_or rows s no_slot)
