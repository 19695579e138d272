use Rattle.std.proofs.Common.{◌≡◌, take}
use Rattle.std.specs.Prelude.{reverse}
use Rattle.run_model.specs.Lines.{report_text}
use Rattle.run_requests.specs.Setups.{setup_of}
use Rattle.run_report.proofs.reporting.report.Given as goal

abbrev pub invariant-loop-at : goal.invariant-loop-at
invariant-loop-at l = l.text ≡ report_text (setup_of l.run) (reverse (take l.at l.journal))
