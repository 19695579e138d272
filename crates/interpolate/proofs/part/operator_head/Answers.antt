use Rattle.std.proofs.Common.{◌∙◌}
use Rattle.interpolate.proofs.Inside.{operator_with_colon}
use Rattle.interpolate.proofs.part.operator_head.Goals as goal

pub returns-then-c-eq58 : goal.returns-then-c-eq58
returns-then-c-eq58 c = c.action_head.ensures ∙ operator_with_colon c.args.name c.args.text.now c.in-len1-up.len_at_least c.if-c-eq58.true
