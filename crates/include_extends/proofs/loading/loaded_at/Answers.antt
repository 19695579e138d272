use Rattle.std.proofs.Common.{Option, subst}
use Rattle.std.proofs.lemmas.Result.{err_from_is_err_and}
use Rattle.include_extends.specs.Loading.{loaded_of, with_files}
use Rattle.include_extends.proofs.Named.{found_there, not_found}
use Rattle.include_extends.proofs.loading.loaded_at.Goals as goal
use Rattle.loaded_files.specs.Reads.{Gives}
use Rattle.outside_files.specs.Files.{Contents}

pub returns-in_err-paths-clause-given : goal.returns-in_err-paths-clause-given
returns-in_err-paths-clause-given g c =
    let a = c.args in
    let p = err_from_is_err_and c.from_residual.result c.from_residual.ensures.1 in
    rw (p.1, p.2) (not_found (g.F.Files.told a.files.now) a.places a.caller.now c.in_err-paths.field-0.0 c.in_err-paths.ensures.given)

pub returns-clause-given : goal.returns-clause-given
returns-clause-given g c =
    let a = c.args in
    let r = c.loaded_of.result in
    let given =
    subst (λ (t : Option Contents). Gives t r (loaded_of (with_files a.places c.in_ok-paths.paths) a.caller.now c.in_ok-paths.found)) c.in_ok-paths.ensures.kept c.loaded_of.ensures.given in
    found_there (g.F.Files.told a.files.now) a.places a.caller.now c.in_ok-paths.paths c.in_ok-paths.found r c.in_ok-paths.ensures.given given

pub returns-in_err-paths-clause-reads : goal.returns-in_err-paths-clause-reads
returns-in_err-paths-clause-reads g c =
    let p = err_from_is_err_and c.from_residual.result c.from_residual.ensures.1 in
    rw (p.1, p.2) c.in_err-paths.ensures.reads
