use Rattle.std.proofs.lemmas.Result.{err_from_is_err_and}
use Rattle.include_extends.proofs.Placed.{no_directory, no_env_files, no_files, all_there}
use Rattle.include_extends.proofs.request.named_places.Goals as goal

pub returns-in_err-files : goal.returns-in_err-files
returns-in_err-files c =
    let p = err_from_is_err_and c.from_residual.result c.from_residual.ensures.1 in
    rw (p.1, p.2) (no_files c.args.request.now c.in_err-files.field-0.0 (rw c.as_slice.ensures at c.in_err-files.ensures))

pub returns-in_err-env_files : goal.returns-in_err-env_files
returns-in_err-env_files c =
    let p = err_from_is_err_and c.from_residual-in_err-env_files.result c.from_residual-in_err-env_files.ensures.1 in
    rw (p.1, p.2) (no_env_files c.args.request.now c.in_ok-files.files (rw c.as_slice.ensures at c.in_ok-files.ensures) c.in_err-env_files.field-0.0 (rw c.as_slice-2.ensures at c.in_err-env_files.ensures))

pub returns-in_err-directory : goal.returns-in_err-directory
returns-in_err-directory c =
    let p = err_from_is_err_and c.from_residual-in_err-directory.result c.from_residual-in_err-directory.ensures.1 in
    rw (p.1, p.2) (no_directory c.args.request.now c.in_ok-files.files (rw c.as_slice.ensures at c.in_ok-files.ensures) c.in_ok-env_files.env_files (rw c.as_slice-2.ensures at c.in_ok-env_files.ensures)
    c.in_err-directory.field-0.0 (rw c.as_slice-3.ensures at c.in_err-directory.ensures))

pub returns : goal.returns
returns c =
    rw c.given_paths.ensures (all_there c.args.request.now c.in_ok-files.files (rw c.as_slice.ensures at c.in_ok-files.ensures) c.in_ok-env_files.env_files (rw c.as_slice-2.ensures at c.in_ok-env_files.ensures) c.in_ok-directory.directory
    (rw c.as_slice-3.ensures at c.in_ok-directory.ensures))
