use Rattle.std.proofs.Common.{arith}
use Rattle.plan_needs.proofs.Counting.{all_listed}
use Rattle.plan_needs.proofs.waiting.all_waited_for.Goals as goal

pub returns-clause-each : goal.returns-clause-each
returns-clause-each c = all_listed c.args.wait c.args.declared.now c.args.actions.now c.args.starts.now c.loop-action.lists c.loop-action.action-index (omega arith) c.loop-action.invariant
