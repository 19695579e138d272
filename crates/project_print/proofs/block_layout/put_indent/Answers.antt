use Rattle.project_print.proofs.Blocks.{indent_step}
use Rattle.project_print.proofs.block_layout.put_indent.Goals as goal

pub loop-preserved : goal.loop-preserved
loop-preserved c = indent_step c.args.out.now c.loop.out _ c.loop.counter c.in_ok-push_str.ensures.ok c.loop.invariant
