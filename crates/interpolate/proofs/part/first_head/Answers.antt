use Rattle.std.proofs.Common.{◌∙◌, ap, sym, subst}
use Rattle.interpolate.specs.Shapes.{Part, first_part}
use Rattle.interpolate.specs.Cuts.{FitsIn}
use Rattle.interpolate.specs.Heads.{own, part_of, head_of}
use Rattle.interpolate.proofs.Inside.{part_is, fits_own}
use Rattle.interpolate.proofs.part.first_head.Goals as goal

pub returns-clause-is : goal.returns-clause-is
returns-clause-is c =
    let a = c.args in
    ap (part_of a.text.now) (c.front_head.ensures ∙ ap (λ t. head_of (first_part a.levels (own a.inside t))) c.as_bytes.ensures.value)
    ∙ part_is a.levels a.inside a.text.now c.requires.closed c.requires.some

pub returns-clause-fits : goal.returns-clause-fits
returns-clause-fits c =
    let a = c.args in
    let is =
    ap (part_of a.text.now) (c.front_head.ensures ∙ ap (λ t. head_of (first_part a.levels (own a.inside t))) c.as_bytes.ensures.value)
    ∙ part_is a.levels a.inside a.text.now c.requires.closed c.requires.some in
    subst (λ (part : Part). FitsIn a.levels a.text.now part) (sym is) (fits_own a.levels a.inside a.text.now c.utf8.text c.requires.closed c.requires.some)
