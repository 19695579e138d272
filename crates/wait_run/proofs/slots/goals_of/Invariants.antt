use Rattle.wait_run.proofs.Finding.{HasGoals}
use Rattle.wait_run.proofs.slots.goals_of.Given as goal

abbrev pub invariant-loop-slot : goal.invariant-loop-slot
invariant-loop-slot l = HasGoals l.declared l.rows l.slot-index l.goals
