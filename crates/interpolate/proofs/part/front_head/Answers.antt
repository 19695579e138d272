use Rattle.std.proofs.Common.{◌∙◌}
use Rattle.interpolate.proofs.Inside.{front_dollar}
use Rattle.interpolate.proofs.part.front_head.Goals as goal

pub returns-then-c-eq36 : goal.returns-then-c-eq36
returns-then-c-eq36 c = c.dollar_head.ensures ∙ front_dollar c.args.levels c.args.inside c.args.text.now c.in-len1-up.len_at_least c.if-c-eq36.true c.requires
