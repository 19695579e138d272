use Rattle.std.proofs.Common.{◌≡◌, None, take}
use Rattle.std.specs.Prelude.{reverse}
use Rattle.run_model.specs.Ending.{first_fault}
use Rattle.run_requests.specs.Setups.{setup_of}
use Rattle.run_report.proofs.exit_status.status.Given as goal

abbrev pub invariant-loop-at : goal.invariant-loop-at
invariant-loop-at l = first_fault (setup_of l.run) (reverse (take l.at l.journal)) ≡ None
