use Rattle.std.proofs.lemmas.Result.{err_from_is_err_and}
use Rattle.service_bases.proofs.Files.{laid_there, not_followed, not_laid}
use Rattle.std.proofs.Common.{◌∙◌, sym}
use Rattle.loaded_files.proofs.Went.{unread}
use Rattle.service_bases.proofs.extending.extended.Goals as goal

pub returns-in_err-layers-clause-given : goal.returns-in_err-layers-clause-given
returns-in_err-layers-clause-given g c =
    let a = c.args in
    let p = err_from_is_err_and c.from_residual.result c.from_residual.ensures.1 in
    rw (p.1, p.2) (not_followed (g.F.Files.told a.files.now) a.env.now a.source.now a.name.now a.left c.in_err-layers.field-0.0 (rw c.new.ensures at c.in_err-layers.ensures.given))

pub returns-in_err-laid_up-clause-given : goal.returns-in_err-laid_up-clause-given
returns-in_err-laid_up-clause-given g c =
    let a = c.args in
    let p = err_from_is_err_and c.from_residual-in_err-laid_up.result c.from_residual-in_err-laid_up.ensures.1 in
    rw (p.1, p.2) (not_laid (g.F.Files.told a.files.now) a.env.now a.source.now a.name.now a.left c.in_ok-layers.layers c.in_ok-layers.rest (rw c.new.ensures at c.in_ok-layers.ensures.given)
    c.in_err-laid_up.field-0.0 c.in_err-laid_up.ensures.given)

pub returns-clause-given : goal.returns-clause-given
returns-clause-given g c =
    let a = c.args in
    laid_there (g.F.Files.told a.files.now) a.env.now a.source.now a.name.now a.left c.in_ok-layers.layers c.in_ok-layers.rest (rw c.new.ensures at c.in_ok-layers.ensures.given)
    c.in_ok-laid_up.field-0 c.in_ok-laid_up.ensures.given

pub returns-in_err-layers-clause-reads : goal.returns-in_err-layers-clause-reads
returns-in_err-layers-clause-reads g c =
    let p = err_from_is_err_and c.from_residual.result c.from_residual.ensures.1 in
    rw (p.1, p.2) c.in_err-layers.ensures.reads

pub returns-in_err-laid_up-clause-reads : goal.returns-in_err-laid_up-clause-reads
returns-in_err-laid_up-clause-reads g c =
    let p = err_from_is_err_and c.from_residual-in_err-laid_up.result c.from_residual-in_err-laid_up.ensures.1 in
    rw (p.1, p.2) (λ well. c.in_ok-layers.ensures.reads well ∙ sym (unread c.in_err-laid_up.field-0.0 c.in_err-laid_up.ensures.fault))
