-- What a run says of the clocks of its workers' hands.
use Rattle.std.specs.Prelude.{◌≡◌, ℕ, ◌+◌, if◌then◌else◌, ◌==◌, List, Option, Some, None, reverse}
use Rattle.engine_types.specs.declared.Entry.{Entry}
use Rattle.ledger_run.specs.Timing.{late_by}
use Rattle.outside_api.specs.Clock.{Clock}
use Rattle.run_model.specs.Logs.{asks, asks_unstopped, late_reading, pauses, was_stopped}
use Rattle.run_model.specs.Runs.{Task}

-- how often a worker reads its clock for so many asks: once for each where there is a deadline, and worker 0 once more, as the
-- run begins
abbrev pub run_readings : Option ℕ → ℕ → ℕ → ℕ
run_readings None w asks = 0
run_readings (Some deadline) w asks = if w == 0 then asks + 1 else asks

-- where there is a deadline, the clock was read first behind so many exchanges of its hand's log: the deadline counts from there
abbrev pub ReadsFirst : Option ℕ → ℕ → Clock → Type 0
ReadsFirst None made clock = Unit {0}
ReadsFirst (Some deadline) made clock = clock.place ≡ Some made

-- a worker's hand looked before each ask whether it is to stop, and the task's journal has a Stop of it exactly where it was told
-- so; it paused as the journal says; where there is a deadline, it read its clock for each ask that no Stop precedes, and the
-- journal has a Late with the last of these readings exactly where that one is at or past the deadline
pub record IsTimed (task : Task) (journal : List Entry) (w : ℕ) (old new : Clock) : Type 0 where
  pub looks : new.looks ≡ old.looks + asks (reverse journal) w
  pub stops : new.yeses ≡ old.yeses + (if was_stopped (reverse journal) w then 1 else 0)
  pub paused : new.paused ≡ old.paused + pauses (reverse journal) w
  pub readings : new.readings ≡ old.readings
      + run_readings task.limits.deadline w (asks_unstopped (reverse journal) w)
  pub late : late_reading (reverse journal) w
      ≡ late_by task.limits.deadline (asks_unstopped (reverse journal) w) new.last
