-- When a slot may be polled, by its row.
use Rattle.std.specs.Prelude.{ℕ, Bool, true, false, not, if◌then◌else◌, ◌&&◌, ◌||◌, nat_lt, Option, Some, None}
use Rattle.engine_types.specs.declared.Condition.{Condition}
use Rattle.run_model.specs.Conditions.{is_failed_verdict}
use Rattle.run_model.specs.declared.verdict.Verdict.{Verdict}
use Rattle.slot_rows.specs.declared.slot_row.SlotRow.{SlotRow}

-- the row of a slot of which nothing is known
abbrev pub no_slot : SlotRow
no_slot = record {
  counts = false;
  out = false;
  polls = 0;
  healthy = Verdict.NotYet;
  completed = Verdict.NotYet;
  running = Verdict.NotYet;
  healthy_askers = 0;
  completed_askers = 0;
  goal = None;
}

-- what the reports so far say of a condition; Started is met where they count
abbrev pub verdict_on : SlotRow → Condition → Verdict
verdict_on row Condition.Started = Verdict.Met
verdict_on row Condition.Healthy = row.healthy
verdict_on row Condition.Completed = row.completed
verdict_on row Condition.Running = row.running

-- the verdict that is neither
abbrev pub is_open_verdict : Verdict → Bool
is_open_verdict Verdict.NotYet = true
is_open_verdict _ = false

-- whether a start that is still to come asks for a condition that hasn't failed
abbrev pub is_needed : SlotRow → Bool
is_needed row =
    (nat_lt 0 row.healthy_askers && not (is_failed_verdict row.healthy))
    || (nat_lt 0 row.completed_askers && not (is_failed_verdict row.completed))

-- whether the goal is neither met nor failed
abbrev pub is_goal_open : SlotRow → Bool
is_goal_open row = of row.goal
  where
    of : Option Condition → Bool
    of (Some goal) = is_open_verdict (verdict_on row goal)
    of None = false

-- the key of a slot in the order of polls: how often it was polled, where it may be
abbrev pub slot_key : SlotRow → Option ℕ
slot_key row =
    if (row.counts && (is_needed row || is_goal_open row) && not row.out) then Some row.polls
    else None
