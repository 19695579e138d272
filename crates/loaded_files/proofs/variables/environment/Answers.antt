use Rattle.std.proofs.lemmas.Result.{err_from_is_err_and}
use Rattle.loaded_files.proofs.Steps.{caller_laid, caller_unasked}
use Rattle.loaded_files.proofs.variables.environment.Goals as goal

pub returns-in_err-values-clause-given : goal.returns-in_err-values-clause-given
returns-in_err-values-clause-given g c =
    let p = err_from_is_err_and c.from_residual.result c.from_residual.ensures.1 in
    rw (p.1, p.2) (caller_unasked (g.F.Files.told c.args.files.now) c.args.directory.now c.args.paths.now c.args.caller.now c.args.left c.in_err-values.field-0.0 c.in_err-values.ensures.given)

pub returns-clause-given : goal.returns-clause-given
returns-clause-given g c =
    caller_laid (g.F.Files.told c.args.files.now) c.args.directory.now c.args.paths.now c.args.caller.now c.args.left c.in_ok-values.values c.in_ok-with_all.field-0 c.in_ok-values.left
    c.in_ok-values.ensures.given c.in_ok-with_all.ensures

pub returns-in_err-values-clause-reads : goal.returns-in_err-values-clause-reads
returns-in_err-values-clause-reads g c =
    let p = err_from_is_err_and c.from_residual.result c.from_residual.ensures.1 in
    rw (p.1, p.2) c.in_err-values.ensures.reads
