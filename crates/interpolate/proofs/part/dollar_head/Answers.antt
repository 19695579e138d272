use Rattle.interpolate.proofs.Inside.{braces_behind}
use Rattle.interpolate.proofs.part.dollar_head.Goals as goal

pub braced_head-requires : goal.braced_head-requires
braced_head-requires c = λ inside. braces_behind c.args.text.now c.in-len1-up.len_at_least c.if-c-eq123.true (c.requires inside)
