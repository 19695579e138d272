-- An entry more adds its line.
use Rattle.run_report.proofs.reporting.report.Goals as goal

pub loop-at-preserved : goal.loop-at-preserved
loop-at-preserved c = c.in_ok-push_at.ensures c.loop-at.invariant
