use Rattle.std.proofs.Common.{arith}
use Rattle.outside_api.proofs.Writes.{nothing_written, written_more}
use Rattle.outside_api.proofs.writing.write_on.Goals as goal

pub loop-at-init : goal.loop-at-init
loop-at-init g c = record {
  within = omega arith;
  counted = omega arith;
  told = nothing_written (g.P.Pipe.talk c.args.pipe.now) c.args.bytes.now;
}

pub loop-at-preserved : goal.loop-at-preserved
loop-at-preserved g c = record {
  within = omega (arith, c.in-Took.ensures.answer.0, c.split_at.ensures.back_len);
  counted = omega (arith, c.loop-at.invariant.counted, c.in-Took.ensures.counted);
  told = written_more (g.P.Pipe.talk c.args.pipe.now) (g.P.Pipe.talk c.loop-at.pipe) (g.P.Pipe.talk c.write.new.self) c.args.bytes.now c.loop-at.at c.in-Took.taken
      c.loop-at.invariant.told (rw c.split_at.ensures.back at c.in-Took.ensures.told);
}
