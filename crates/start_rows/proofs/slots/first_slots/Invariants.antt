use Rattle.start_rows.proofs.Placing.{Placed}
use Rattle.start_rows.proofs.slots.first_slots.Given as goal

abbrev pub invariant-loop-at : goal.invariant-loop-at
invariant-loop-at l = Placed l.declared l.wait l.starts l.healthy l.completed l.rows.items l.at
