-- No slot before this one has a terminal and a container.
use Rattle.logs_run.proofs.Refusals.{NoneBelow}
use Rattle.logs_run.proofs.ending.first_terminal.Given as goal

abbrev pub invariant-loop-at : goal.invariant-loop-at
invariant-loop-at l = NoneBelow l.declared l.rows l.at
