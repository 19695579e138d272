use Rattle.std.proofs.lemmas.Result.{err_from_is_err_and}
use Rattle.include_extends.proofs.Named.{no_places, places_there}
use Rattle.std.proofs.Common.{◌∙◌, sym}
use Rattle.loaded_files.proofs.Went.{unread}
use Rattle.include_extends.proofs.loading.load.Goals as goal

pub returns-in_err-places-clause-given : goal.returns-in_err-places-clause-given
returns-in_err-places-clause-given g c =
    let a = c.args in
    let p = err_from_is_err_and c.from_residual.result c.from_residual.ensures.1 in
    rw (p.1, p.2) (no_places (g.F.Files.told a.files.now) a.request.now c.in_err-places.field-0.0 c.in_err-places.ensures.given)

pub returns-clause-given : goal.returns-clause-given
returns-clause-given g c =
    let a = c.args in
    places_there (g.F.Files.told a.files.now) a.request.now c.in_ok-places.places c.loaded_at.result c.in_ok-places.ensures.given c.loaded_at.ensures.given

pub returns-in_err-places-clause-reads : goal.returns-in_err-places-clause-reads
returns-in_err-places-clause-reads g c =
    let p = err_from_is_err_and c.from_residual.result c.from_residual.ensures.1 in
    rw (p.1, p.2) (λ well. well ∙ sym (unread c.in_err-places.field-0.0 c.in_err-places.ensures.fault))
