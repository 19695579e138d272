-- What is asked of the slots so far, and of those that are left, is all.
use Rattle.std.proofs.Common.{◌≡◌, ◌++◌, drop}
use Rattle.logs_run.specs.Slots.{tasks, tasks_from}
use Rattle.logs_run.proofs.tasks.all_tasks.Given as goal

abbrev pub invariant-loop-at : goal.invariant-loop-at
invariant-loop-at l =
    l.all ++ tasks_from l.declared l.rows l.at (drop l.at l.declared.slots) ≡ tasks l.declared l.rows
