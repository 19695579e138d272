use Rattle.std.proofs.Common.{arith}
use Rattle.yaml_groups.proofs.GroupSteps.{taken_more, left_more}
use Rattle.yaml_groups.proofs.queue.Queue.take.Goals as goal

pub loop-preserved : goal.loop-preserved
loop-preserved c =
    record {
      is = taken_more c.loop.rows _ c.in-Some.row c.loop.self _ _ c.args.count c.loop.counter (omega arith) c.in-Some.ensures c.in_ok-push-in-Some.ensures.ok c.loop.invariant.is;
      rest = left_more c.in-Some.row c.loop.self _ _ c.args.count c.loop.counter (omega arith) c.in-Some.ensures c.loop.invariant.rest;
    }
