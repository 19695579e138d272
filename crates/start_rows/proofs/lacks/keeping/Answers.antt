use Rattle.std.proofs.Common.{sym, ◌∙◌, arith}
use Rattle.start_rows.proofs.Lacking.{kept_more, let_more}
use Rattle.start_rows.proofs.lacks.keeping.Goals.{else-keeps_first, then-keeps_first}
use Rattle.start_rows.proofs.lacks.keeping.Goals as goal

pub loop-need-preserved : goal.loop-need-preserved
loop-need-preserved c = elim c.if-keeps_first.branch [
  | then-keeps_first w ↦ record {
    few = omega (arith, w.count-is, c.loop-need.invariant.few);
    so_far = w.count-is ∙ kept_more c.args.starts.now c.args.needs.now c.loop-need.need-index _ c.loop-need.count c.loop-need-test.true (sym c.keeps_first.ensures ∙ w.if-keeps_first.true) c.loop-need.invariant.so_far;
  }
  | else-keeps_first w ↦ record {
    few = omega (arith, w.count-is, c.loop-need.invariant.few);
    so_far = w.count-is ∙ let_more c.args.starts.now c.args.needs.now c.loop-need.need-index _ c.loop-need.count c.loop-need-test.true (sym c.keeps_first.ensures ∙ w.if-keeps_first.false) c.loop-need.invariant.so_far;
  }
]
