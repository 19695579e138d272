use Rattle.run_requests.specs.Setups.{setup_of}
use Rattle.run_report.specs.Rows.{AreWantedBy}
use Rattle.run_report.proofs.wanted.wanted_rows.Given as goal

abbrev pub invariant-loop-at : goal.invariant-loop-at
invariant-loop-at l = AreWantedBy (setup_of l.run) l.claims l.rows.items l.at
