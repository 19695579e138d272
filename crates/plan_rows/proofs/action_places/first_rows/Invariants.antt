use Rattle.plan_rows.proofs.Entering.{Entered}
use Rattle.plan_rows.proofs.action_places.first_rows.Given as goal

abbrev pub invariant-loop-at : goal.invariant-loop-at
invariant-loop-at l = Entered l.row l.actions l.count l.places.items l.at
