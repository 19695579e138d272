use Rattle.std.proofs.Common.{◌∙◌, ap, sym, subst}
use Rattle.interpolate.proofs.Fitting.{fits}
use Rattle.interpolate.specs.Cuts.{FitsIn}
use Rattle.interpolate.specs.Shapes.{Part, first_part}
use Rattle.unset_variables.proofs.part.first_head.Goals as goal

pub returns-clause-is : goal.returns-clause-is
returns-clause-is c = c.first_part.ensures ∙ ap (first_part c.args.levels) c.as_bytes.ensures.value

pub returns-clause-fits : goal.returns-clause-fits
returns-clause-fits c =
    let is = c.first_part.ensures ∙ ap (first_part c.args.levels) c.as_bytes.ensures.value in
    subst (λ (part : Part). FitsIn c.args.levels c.args.text.now part) (sym is) (fits c.args.levels c.args.text.now c.utf8.text c.requires)
