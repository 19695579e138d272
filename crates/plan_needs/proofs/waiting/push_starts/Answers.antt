use Rattle.plan_needs.specs.Waits.{waits_for}
use Rattle.plan_needs.proofs.Counting.{more_by}
use Rattle.plan_needs.proofs.waiting.push_starts.Goals as goal

pub loop-need-preserved : goal.loop-need-preserved
loop-need-preserved c = λ x. more_by (waits_for c.args.wait c.args.starts.now x) c.args.needs.now c.loop-need.need-index _ c.loop-need-test.true _ _ _ (c.in_ok-push_start.ensures.ok x) (c.loop-need.invariant x)
