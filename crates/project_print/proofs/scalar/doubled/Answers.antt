use Rattle.std.proofs.Common.{◌∙◌}
use Rattle.std.specs.Str.Iter.{chars_rest}
use Rattle.project_print.specs.Scalars.{doubled_byte}
use Rattle.project_print.proofs.Letters.{mapped_step}
use Rattle.project_print.proofs.scalar.doubled.Goals as goal

pub loop-c-preserved : goal.loop-c-preserved
loop-c-preserved c =
    let read = rw c.in-Some.is at c.next.ensures.steps in
    mapped_step doubled_byte c.in-Some.c c.loop-c.twice _ (chars_rest c.next.new.self) _ read.0 c.in_ok-put_doubled.ensures ∙ c.loop-c.invariant
