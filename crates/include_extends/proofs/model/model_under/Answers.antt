use Rattle.std.proofs.lemmas.Result.{err_from_is_err_and}
use Rattle.include_extends.proofs.Files.{model_there, not_laid, not_placed}
use Rattle.std.proofs.Common.{◌∙◌, sym}
use Rattle.loaded_files.proofs.Went.{unread}
use Rattle.include_extends.proofs.model.model_under.Goals as goal

pub returns-in_err-merged-clause-given : goal.returns-in_err-merged-clause-given
returns-in_err-merged-clause-given g c =
    let a = c.args in
    let p = err_from_is_err_and c.from_residual.result c.from_residual.ensures.1 in
    rw (p.1, p.2) (not_laid (g.F.Files.told a.files.now) a.paths.now a.directory.now a.env a.found a.left c.in_err-merged.field-0.0 c.in_err-merged.ensures.given)

pub returns-in_err-tree-clause-given : goal.returns-in_err-tree-clause-given
returns-in_err-tree-clause-given g c =
    let a = c.args in
    let told = g.F.Files.told a.files.now in
    let p = err_from_is_err_and c.from_residual-in_err-tree.result c.from_residual-in_err-tree.ensures.1 in
    rw (p.1, p.2) (not_placed told a.paths.now a.directory.now a.env a.found a.left c.in_ok-merged.merged c.in_ok-merged.left c.in_ok-merged.ensures.given
    c.in_err-tree.field-0.0 (c.in_err-tree.ensures.given told))

pub returns-clause-given : goal.returns-clause-given
returns-clause-given g c =
    let a = c.args in
    let told = g.F.Files.told a.files.now in
    model_there told a.paths.now a.directory.now a.env a.found a.left c.in_ok-merged.merged c.in_ok-merged.left c.in_ok-merged.ensures.given c.in_ok-tree.tree (c.in_ok-tree.ensures.given told)

pub returns-in_err-merged-clause-reads : goal.returns-in_err-merged-clause-reads
returns-in_err-merged-clause-reads g c =
    let p = err_from_is_err_and c.from_residual.result c.from_residual.ensures.1 in
    rw (p.1, p.2) c.in_err-merged.ensures.reads

pub returns-in_err-tree-clause-reads : goal.returns-in_err-tree-clause-reads
returns-in_err-tree-clause-reads g c =
    let p = err_from_is_err_and c.from_residual-in_err-tree.result c.from_residual-in_err-tree.ensures.1 in
    rw (p.1, p.2) (λ well. c.in_ok-merged.ensures.reads well ∙ sym (unread c.in_err-tree.field-0.0 c.in_err-tree.ensures.fault))
