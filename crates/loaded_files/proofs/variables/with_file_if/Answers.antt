use Rattle.std.proofs.lemmas.Result.{err_from_is_err_and}
use Rattle.loaded_files.proofs.Steps.{if_laid, if_refused, if_unread}
use Rattle.std.proofs.Common.{◌∙◌, sym}
use Rattle.loaded_files.proofs.Went.{unread}
use Rattle.loaded_files.proofs.variables.with_file_if.Goals as goal

pub returns-in_err-found-clause-given : goal.returns-in_err-found-clause-given
returns-in_err-found-clause-given g c =
    let a = c.args in
    let p = err_from_is_err_and c.from_residual.result c.from_residual.ensures.1 in
    rw (p.1, p.2) (if_unread (g.F.Files.told a.files.now) a.caller.now a.path.now a.earlier a.left c.in_err-found.field-0.0 c.in_err-found.ensures.given)

pub returns-in_err-env_file_if-clause-given : goal.returns-in_err-env_file_if-clause-given
returns-in_err-env_file_if-clause-given g c =
    let a = c.args in
    let p = err_from_is_err_and c.from_residual-in_err-env_file_if.result c.from_residual-in_err-env_file_if.ensures.1 in
    rw (p.1, p.2) (if_refused (g.F.Files.told a.files.now) a.caller.now a.path.now a.earlier a.left c.in_ok-found.found c.in_ok-found.left c.in_err-env_file_if.field-0.0
    c.in_ok-found.ensures.given c.in_err-env_file_if.ensures.given)

pub returns-clause-given : goal.returns-clause-given
returns-clause-given g c =
    let a = c.args in
    if_laid (g.F.Files.told a.files.now) a.caller.now a.path.now a.earlier a.left c.in_ok-found.found c.in_ok-found.left c.in_ok-env_file_if.field-0
    c.in_ok-found.ensures.given c.in_ok-env_file_if.ensures.given

pub returns-in_err-found-clause-reads : goal.returns-in_err-found-clause-reads
returns-in_err-found-clause-reads g c =
    let p = err_from_is_err_and c.from_residual.result c.from_residual.ensures.1 in
    rw (p.1, p.2) c.in_err-found.ensures.reads

pub returns-in_err-env_file_if-clause-reads : goal.returns-in_err-env_file_if-clause-reads
returns-in_err-env_file_if-clause-reads g c =
    let p = err_from_is_err_and c.from_residual-in_err-env_file_if.result c.from_residual-in_err-env_file_if.ensures.1 in
    rw (p.1, p.2) (λ well. c.in_ok-found.ensures.reads well ∙ sym (unread c.in_err-env_file_if.field-0.0 c.in_err-env_file_if.ensures.fault))
