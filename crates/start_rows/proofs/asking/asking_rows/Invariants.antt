use Rattle.start_rows.proofs.Askers.{Asked}
use Rattle.start_rows.proofs.asking.asking_rows.Given as goal

abbrev pub invariant-loop-at : goal.invariant-loop-at
invariant-loop-at l = Asked l.ask l.condition l.declared l.actions l.rows.items l.at
