use Rattle.ledger_rows.proofs.Inverting.{Turning}
use Rattle.ledger_rows.proofs.dependents.turned.Given as goal

abbrev pub invariant-loop-at : goal.invariant-loop-at
invariant-loop-at l = Turning l.rows.items l.needs l.at
