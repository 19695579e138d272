use Rattle.run_report.proofs.Wanting.{Takes}
use Rattle.run_report.proofs.wanted.want_all.Given as goal

abbrev pub invariant-loop-at : goal.invariant-loop-at
invariant-loop-at l = Takes l.needs l.place l.initial.rows.items l.rows.items l.at
