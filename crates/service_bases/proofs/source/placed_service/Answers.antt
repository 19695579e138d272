use Rattle.std.proofs.lemmas.Result.{err_from_is_err_and}
use Rattle.service_bases.proofs.Links.{not_placed, placed_there}
use Rattle.service_bases.proofs.source.placed_service.Goals as goal

pub returns-in_err-placed-in-Some-clause-given : goal.returns-in_err-placed-in-Some-clause-given
returns-in_err-placed-in-Some-clause-given c =
    let a = c.args in
    let p = err_from_is_err_and c.from_residual-in_err-placed-in-Some.result c.from_residual-in_err-placed-in-Some.ensures.1 in
    rw (p.1, p.2, c.in-Some.is) (not_placed a.env.now c.in-Some.directory a.service.now c.in_err-placed-in-Some.field-0.0
    (rw c.in_ok-copy-in-Some.ensures at c.in_err-placed-in-Some.ensures.given))

pub returns-in_ok-entries_in-in-Some-clause-given : goal.returns-in_ok-entries_in-in-Some-clause-given
returns-in_ok-entries_in-in-Some-clause-given c =
    let a = c.args in
    rw (c.in-Some.is, c.in_ok-entries_in-in-Some.ensures) (placed_there a.env.now c.in-Some.directory a.service.now c.in_ok-placed-in-Some.placed
    (rw c.in_ok-copy-in-Some.ensures at c.in_ok-placed-in-Some.ensures.given))
