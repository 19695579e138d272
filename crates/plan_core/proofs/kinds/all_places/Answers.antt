-- A place more.
use Rattle.std.proofs.Common.{arith}
use Rattle.std.proofs.lemmas.Grind.{common_steps}
use Rattle.plan_core.proofs.Rows.{numbers_more}
use Rattle.plan_core.proofs.kinds.all_places.Goals as goal

pub loop-at-preserved : goal.loop-at-preserved
loop-at-preserved c = let more = numbers_more c.loop-at.at in grind (arith, common_steps, more)
