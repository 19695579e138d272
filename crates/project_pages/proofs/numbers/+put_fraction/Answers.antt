use Rattle.std.proofs.Common.{◌≡◌, ◌-◌, ◌^◌, ◌<◌, ℕ, arith, sym, subst}
use Rattle.project_pages.proofs.Fractions.{first_small, rest_small, some_place, unit_some}
use Rattle.project_pages.proofs.numbers.+put_fraction.Goals as goal

positive : (unit k : ℕ) → unit ≡ 10 ^ k → 0 < unit
positive unit k is = subst (λ n. 0 < n) (sym is) (unit_some k)

pub nonzero_div-parts : goal.nonzero_div-parts
nonzero_div-parts t c = positive c.pow-unit.result (c.args.places - 1) c.pow-unit.ensures

pub overflow_cast-parts : goal.overflow_cast-parts
overflow_cast-parts t c =
    let some : 0 < c.args.places = some_place c.args.places c.args.parts c.requires.within c.if-parts-eq0.false in
    omega (arith, first_small c.args.places c.args.parts c.pow-unit.result some c.requires.within c.pow-unit.ensures)

pub digit-requires : goal.digit-requires
digit-requires t c =
    let some : 0 < c.args.places = some_place c.args.places c.args.parts c.requires.within c.if-parts-eq0.false in
    first_small c.args.places c.args.parts c.pow-unit.result some c.requires.within c.pow-unit.ensures

pub nonzero_rem-parts : goal.nonzero_rem-parts
nonzero_rem-parts t c = positive c.pow-unit.result (c.args.places - 1) c.pow-unit.ensures

pub put_fraction-requires : goal.put_fraction-requires
put_fraction-requires t c =
    let some : 0 < c.args.places = some_place c.args.places c.args.parts c.requires.within c.if-parts-eq0.false in
    (omega (arith, some, c.decreases), (omega (arith, c.requires.few), rest_small c.args.parts c.pow-unit.result (10 ^ (c.args.places - 1)) (positive c.pow-unit.result (c.args.places - 1) c.pow-unit.ensures) c.pow-unit.ensures))
