use Rattle.std.proofs.Common.{Option, subst}
use Rattle.std.proofs.lemmas.Result.{err_from_is_err_and}
use Rattle.include_extends.proofs.Completed.{are_extended, not_extended}
use Rattle.include_extends.proofs.services.services_loaded.Goals as goal
use Rattle.loaded_files.specs.Reads.{Gives}
use Rattle.outside_files.specs.Files.{Contents}
use Rattle.service_environments.specs.Environments.{with_environments}

pub returns-in_err-extended-clause-given : goal.returns-in_err-extended-clause-given
returns-in_err-extended-clause-given g c =
    let a = c.args in
    let p = err_from_is_err_and c.from_residual.result c.from_residual.ensures.1 in
    rw (p.1, p.2) (not_extended (g.F.Files.told a.files.now) a.env.now a.file.now a.services a.left c.in_err-extended.field-0.0 c.in_err-extended.ensures.given)

pub returns-clause-given : goal.returns-clause-given
returns-clause-given g c =
    let a = c.args in
    let r = c.with_environments.result in
    let given = subst (λ (t : Option Contents). Gives t r (with_environments a.env.now c.in_ok-extended.extended c.in_ok-extended.left)) c.in_ok-extended.ensures.kept c.with_environments.ensures.given in
    are_extended (g.F.Files.told a.files.now) a.env.now a.file.now a.services a.left c.in_ok-extended.extended c.in_ok-extended.left r c.in_ok-extended.ensures.given given

pub returns-in_err-extended-clause-reads : goal.returns-in_err-extended-clause-reads
returns-in_err-extended-clause-reads g c =
    let p = err_from_is_err_and c.from_residual.result c.from_residual.ensures.1 in
    rw (p.1, p.2) c.in_err-extended.ensures.reads
