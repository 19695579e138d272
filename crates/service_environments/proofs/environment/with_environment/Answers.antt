use Rattle.std.proofs.lemmas.Result.{err_from_is_err_and}
use Rattle.service_environments.proofs.Steps.{files_unread, values_there}
use Rattle.service_environments.proofs.environment.with_environment.Goals as goal

pub returns-in_err-values-clause-given : goal.returns-in_err-values-clause-given
returns-in_err-values-clause-given g c =
    let a = c.args in
    let p = err_from_is_err_and c.from_residual-in_err-values.result c.from_residual-in_err-values.ensures.1 in
    rw (p.1, p.2) (files_unread (g.F.Files.told a.files.now) a.env.now a.service a.left c.in_err-values.field-0.0 (rw (c.as_slice.ensures, c.in_ok-items.ensures) at c.in_err-values.ensures.given))

pub returns-clause-given : goal.returns-clause-given
returns-clause-given g c =
    let a = c.args in
    values_there (g.F.Files.told a.files.now) a.env.now a.service a.left c.in_ok-values.values c.in_ok-values.left c.in_ok-with_all_values.field-0
    (rw (c.as_slice.ensures, c.in_ok-items.ensures) at c.in_ok-values.ensures.given) c.in_ok-with_all_values.ensures

pub returns-in_err-values-clause-reads : goal.returns-in_err-values-clause-reads
returns-in_err-values-clause-reads g c =
    let p = err_from_is_err_and c.from_residual-in_err-values.result c.from_residual-in_err-values.ensures.1 in
    rw (p.1, p.2) c.in_err-values.ensures.reads
