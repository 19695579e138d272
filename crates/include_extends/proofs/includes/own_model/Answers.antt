use Rattle.std.proofs.Common.{Option, subst}
use Rattle.std.proofs.lemmas.Result.{err_from_is_err_and}
use Rattle.include_extends.specs.Includes.{first_or}
use Rattle.include_extends.specs.Services.{with_services}
use Rattle.include_extends.proofs.Included.{is_merged, not_merged}
use Rattle.include_extends.proofs.includes.own_model.Goals as goal
use Rattle.loaded_files.specs.Reads.{Gives}
use Rattle.outside_files.specs.Files.{Contents}

pub returns-in_err-own-clause-given : goal.returns-in_err-own-clause-given
returns-in_err-own-clause-given g c =
    let a = c.args in
    let p = err_from_is_err_and c.from_residual.result c.from_residual.ensures.1 in
    rw (p.1, p.2) (not_merged (g.F.Files.told a.files.now) a.places.now a.caller.now a.found a.left c.in_err-own.field-0.0 (rw c.as_slice.ensures at c.in_err-own.ensures.given))

pub returns-clause-given : goal.returns-clause-given
returns-clause-given g c =
    let a = c.args in
    let r = c.with_services.result in
    let given = subst (λ (t : Option Contents). Gives t r (with_services (first_or a.places.now.directory a.places.now.files) c.in_ok-own.own)) c.in_ok-own.ensures.kept (rw c.first_file.ensures at c.with_services.ensures.given) in
    is_merged (g.F.Files.told a.files.now) a.places.now a.caller.now a.found a.left c.in_ok-own.own r (rw c.as_slice.ensures at c.in_ok-own.ensures.given) given

pub returns-in_err-own-clause-reads : goal.returns-in_err-own-clause-reads
returns-in_err-own-clause-reads g c =
    let p = err_from_is_err_and c.from_residual.result c.from_residual.ensures.1 in
    rw (p.1, p.2) c.in_err-own.ensures.reads
