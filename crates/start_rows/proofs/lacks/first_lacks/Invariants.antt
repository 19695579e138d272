use Rattle.start_rows.proofs.Lacking.{Lacking}
use Rattle.start_rows.proofs.lacks.first_lacks.Given as goal

abbrev pub invariant-loop-action : goal.invariant-loop-action
invariant-loop-action l = Lacking l.declared l.actions l.starts l.lacks.items l.action-index
