use Rattle.std.proofs.lemmas.Result.{err_from_is_err_and}
use Rattle.include_extends.proofs.Added.{configs_added, networks_out, secrets_out, services_out, volumes_out}
use Rattle.include_extends.proofs.sections.sections_added.Goals as goal

-- the first kind that is refused, behind those that were added
pub returns-in_err-top-clause-given : goal.returns-in_err-top-clause-given
returns-in_err-top-clause-given c =
    let a = c.args in
    let p = err_from_is_err_and c.from_residual.result c.from_residual.ensures.1 in
    rw (p.1, p.2) (services_out a.file.now a.theirs.now a.top c.in_err-top.field-0.0 c.in_err-top.ensures.given)

pub returns-in_err-top-2-clause-given : goal.returns-in_err-top-2-clause-given
returns-in_err-top-2-clause-given c =
    let a = c.args in
    let p = err_from_is_err_and c.from_residual-in_err-top-2.result c.from_residual-in_err-top-2.ensures.1 in
    rw (p.1, p.2) (networks_out a.file.now a.theirs.now a.top c.in_ok-top.top c.in_ok-top.ensures.given c.in_err-top-2.field-0.0 c.in_err-top-2.ensures.given)

pub returns-in_err-top-3-clause-given : goal.returns-in_err-top-3-clause-given
returns-in_err-top-3-clause-given c =
    let a = c.args in
    let p = err_from_is_err_and c.from_residual-in_err-top-3.result c.from_residual-in_err-top-3.ensures.1 in
    rw (p.1, p.2) (volumes_out a.file.now a.theirs.now a.top c.in_ok-top.top c.in_ok-top.ensures.given c.in_ok-top-2.top c.in_ok-top-2.ensures.given c.in_err-top-3.field-0.0 c.in_err-top-3.ensures.given)

pub returns-in_err-top-4-clause-given : goal.returns-in_err-top-4-clause-given
returns-in_err-top-4-clause-given c =
    let a = c.args in
    let p = err_from_is_err_and c.from_residual-in_err-top-4.result c.from_residual-in_err-top-4.ensures.1 in
    rw (p.1, p.2) (secrets_out a.file.now a.theirs.now a.top c.in_ok-top.top c.in_ok-top.ensures.given c.in_ok-top-2.top c.in_ok-top-2.ensures.given c.in_ok-top-3.top c.in_ok-top-3.ensures.given c.in_err-top-4.field-0.0 c.in_err-top-4.ensures.given)

pub returns-clause-given : goal.returns-clause-given
returns-clause-given c =
    let a = c.args in
    configs_added a.file.now a.theirs.now a.top c.in_ok-top.top c.in_ok-top.ensures.given c.in_ok-top-2.top c.in_ok-top-2.ensures.given c.in_ok-top-3.top c.in_ok-top-3.ensures.given c.in_ok-top-4.top c.section_added-5.result c.in_ok-top-4.ensures.given c.section_added-5.ensures.given
