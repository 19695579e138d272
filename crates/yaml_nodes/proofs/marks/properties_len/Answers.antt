use Rattle.std.proofs.Common.{arith}
use Rattle.std.proofs.lemmas.List.{take_rest}
use Rattle.yaml_nodes.proofs.MarkSteps.{run_step}
use Rattle.yaml_nodes.proofs.marks.properties_len.Goals as goal

pub loop-at-preserved : goal.loop-at-preserved
loop-at-preserved c =
    let cs = c.args.chars.now in
    let rest = take_rest cs c.loop-at.at in
    let is = rw rest at c.front_len-len.ensures.is in
    let step = run_step cs c.loop-at.at c.front_len-len.result is c.if-len-eq0.false in
    record { within = omega arith; is = omega (arith, step) }
