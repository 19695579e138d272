use Rattle.std.proofs.Common.{◌∙◌, Ok, ap, sym}
use Rattle.service_bases.proofs.Layers.{up_from, up_from_none}
use Rattle.service_bases.proofs.laid.laid_up.Goals as goal

pub returns-in-None-clause-given : goal.returns-in-None-clause-given
returns-in-None-clause-given c = λ n. ap Ok c.new.ensures ∙ sym (up_from_none c.args.layers c.in-None.ensures.0)

pub returns-in-Some-clause-given : goal.returns-in-Some-clause-given
returns-in-Some-clause-given c =
    up_from c.args.layers c.pop.new.self c.in-Some.last c.layers_over.result c.in-Some.ensures c.layers_over.ensures.given
