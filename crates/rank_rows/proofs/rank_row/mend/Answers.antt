use Rattle.std.proofs.Common.{arith}
use Rattle.rank_rows.proofs.Trees.{mended}
use Rattle.rank_rows.proofs.rank_row.mend.Goals as goal

pub loop-at-preserved : goal.loop-at-preserved
loop-at-preserved c = record {
  below = omega arith;
  tree = mended _ _ _ _ (omega arith) (omega arith) (omega arith) c.loop-at.invariant.tree (cc);
}
