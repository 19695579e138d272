-- What a run leaves that was made with new hands.
use Rattle.std.specs.Prelude.{◌≡◌, ℕ, List, [], Some, length, slice_get}
use Rattle.compose_cli.specs.Runs.{IsCausedAnew}
use Rattle.engine_types.specs.declared.Entry.{Entry}
use Rattle.ledger_run.specs.Tellings.{Telling, account_in}
use Rattle.outside_api.specs.Clock.{new_clock}
use Rattle.project_run.specs.Timing.{IsTimed, ReadsFirst}
use Rattle.run_model.specs.Logs.{GrowsBy}
use Rattle.run_model.specs.Runs.{IsLeftByAll, IsRun, Task, run_exchanges}

-- a whole run of the task was made with new hands, one for each of its workers, and this is what they tell now: its journal is legal
-- and final, each worker left it, and the hand of each made its exchanges and used its clock as the journal says
pub record RunsNew {H : Type 0} (tell : H → Telling) (task : Task) (journal : List Entry)
    (hands : List H) : Type 0 where
  pub legal : IsRun task journal
  pub left : IsLeftByAll task journal
  pub as_many : length hands ≡ task.limits.workers
  pub log : (w : ℕ) (hand : H) → slice_get hands w ≡ Some hand
      → GrowsBy (run_exchanges task journal w) [] (tell hand).log
  pub cause : (w : ℕ) (hand : H) → slice_get hands w ≡ Some hand
      → IsCausedAnew task journal w (account_in (tell hand))
  pub timed : (w : ℕ) (hand : H) → slice_get hands w ≡ Some hand
      → IsTimed task journal w new_clock (tell hand).clock
  pub read_first : (hand : H) → slice_get hands 0 ≡ Some hand
      → ReadsFirst task.limits.deadline 0 (tell hand).clock
