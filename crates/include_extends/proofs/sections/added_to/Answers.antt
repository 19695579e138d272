use Rattle.std.proofs.lemmas.Result.{err_from_is_err_and}
use Rattle.include_extends.proofs.Added.{sections_refused, sections_there}
use Rattle.include_extends.proofs.sections.added_to.Goals as goal

pub returns-in_err-all-clause-given : goal.returns-in_err-all-clause-given
returns-in_err-all-clause-given c =
    let a = c.args in
    let p = err_from_is_err_and c.from_residual-in_err-all.result c.from_residual-in_err-all.ensures.1 in
    rw (p.1, p.2) (sections_refused a.file.now a.theirs.now a.tree c.in_err-all.field-0.0 (rw (c.in_ok-declared.ensures, c.in_ok-top.ensures) at c.in_err-all.ensures.given))

pub returns-clause-given : goal.returns-clause-given
returns-clause-given c =
    let a = c.args in
    sections_there a.file.now a.theirs.now a.tree c.in_ok-all.all c.bounded.result (rw (c.in_ok-declared.ensures, c.in_ok-top.ensures) at c.in_ok-all.ensures.given)
    (rw c.in_ok-mapping.ensures at c.bounded.ensures.given)
