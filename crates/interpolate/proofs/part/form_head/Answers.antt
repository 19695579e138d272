use Rattle.std.proofs.Common.{◌∙◌}
use Rattle.interpolate.proofs.Inside.{form_named}
use Rattle.interpolate.proofs.part.form_head.Goals as goal

pub returns-else-name-eq0 : goal.returns-else-name-eq0
returns-else-name-eq0 c = c.operator_head.ensures ∙ form_named c.args.text.now c.name_len-name.result c.name_len-name.ensures.is c.if-name-eq0.false
