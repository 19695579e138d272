use Rattle.std.proofs.lemmas.Result.{err_from_is_err_and}
use Rattle.loaded_files.proofs.Steps.{file_laid, file_refused, file_unread}
use Rattle.std.proofs.Common.{◌∙◌, sym}
use Rattle.loaded_files.proofs.Went.{unread}
use Rattle.loaded_files.proofs.variables.with_file.Goals as goal

pub returns-in_err-bytes-clause-given : goal.returns-in_err-bytes-clause-given
returns-in_err-bytes-clause-given g c =
    let p = err_from_is_err_and c.from_residual.result c.from_residual.ensures.1 in
    rw (p.1, p.2) (file_unread (g.F.Files.told c.args.files.now) c.args.caller.now c.args.path.now c.args.earlier c.args.left c.in_err-bytes.field-0.0 c.in_err-bytes.ensures.given)

pub returns-in_err-with_env_file-clause-given : goal.returns-in_err-with_env_file-clause-given
returns-in_err-with_env_file-clause-given g c =
    let p = err_from_is_err_and c.from_residual-in_err-with_env_file.result c.from_residual-in_err-with_env_file.ensures.1 in
    rw (p.1, p.2) (file_refused (g.F.Files.told c.args.files.now) c.args.caller.now c.args.path.now c.args.earlier c.args.left c.in_ok-bytes.bytes c.in_ok-bytes.left c.in_err-with_env_file.field-0.0
    c.in_ok-bytes.ensures.given (rw c.as_slice.ensures at c.in_err-with_env_file.ensures.given))

pub returns-clause-given : goal.returns-clause-given
returns-clause-given g c =
    file_laid (g.F.Files.told c.args.files.now) c.args.caller.now c.args.path.now c.args.earlier c.args.left c.in_ok-bytes.bytes c.in_ok-bytes.left c.in_ok-with_env_file.field-0
    c.in_ok-bytes.ensures.given (rw c.as_slice.ensures at c.in_ok-with_env_file.ensures.given)

pub returns-in_err-bytes-clause-reads : goal.returns-in_err-bytes-clause-reads
returns-in_err-bytes-clause-reads g c =
    let p = err_from_is_err_and c.from_residual.result c.from_residual.ensures.1 in
    rw (p.1, p.2) c.in_err-bytes.ensures.reads

pub returns-in_err-with_env_file-clause-reads : goal.returns-in_err-with_env_file-clause-reads
returns-in_err-with_env_file-clause-reads g c =
    let p = err_from_is_err_and c.from_residual-in_err-with_env_file.result c.from_residual-in_err-with_env_file.ensures.1 in
    rw (p.1, p.2) (λ well. c.in_ok-bytes.ensures.reads well ∙ sym (unread c.in_err-with_env_file.field-0.0 c.in_err-with_env_file.ensures.fault))
