use Rattle.std.proofs.Common.{◌≡◌, ◌-◌, length}
use Rattle.std.specs.Prelude.{reverse}
use Rattle.run_model.specs.Numbers.{numbers_from}
use Rattle.run_requests.specs.Setups.{setup_of}
use Rattle.run_report.specs.Conditions.{failed_by_start, failed_by_starts, first_some}
use Rattle.run_report.proofs.conditions.failed_by_starts.Given as goal

abbrev pub invariant-loop-at : goal.invariant-loop-at
invariant-loop-at l =
    first_some (failed_by_start (setup_of l.run) (reverse l.past) l.slot l.report) (numbers_from l.at (length l.run.plan.now.actions - l.at))
    ≡ failed_by_starts (setup_of l.run) (reverse l.past) l.slot l.report
