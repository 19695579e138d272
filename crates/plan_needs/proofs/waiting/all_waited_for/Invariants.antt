use Rattle.plan_needs.proofs.Counting.{Listed}
use Rattle.plan_needs.proofs.waiting.all_waited_for.Given as goal

abbrev pub invariant-loop-action : goal.invariant-loop-action
invariant-loop-action l = Listed l.wait l.declared l.actions l.starts l.lists l.action-index
