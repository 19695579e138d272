use Rattle.std.proofs.Common.{arith}
use Rattle.outside_files.proofs.Writes.{GrewBy-more}
use Rattle.outside_files.proofs.writing.write_all.Goals as goal

pub loop-at-preserved : goal.loop-at-preserved
loop-at-preserved g c = record {
  within = omega (arith, c.in-Took.ensures.answer.0, c.split_at.ensures.back_len);
  counted = omega (arith, c.loop-at.invariant.counted, c.in-Took.ensures.counted);
  grew = GrewBy-more (g.S.Sink.written c.args.sink.now) (g.S.Sink.written c.loop-at.sink) (g.S.Sink.written c.write.new.self) c.args.bytes.now c.loop-at.at c.in-Took.taken
      c.loop-at.invariant.grew (rw c.split_at.ensures.back at c.in-Took.ensures.told);
}
