use Rattle.std.proofs.lemmas.Result.{err_from_is_err_and}
use Rattle.service_bases.proofs.Files.{base_misshaped, base_there, base_unread}
use Rattle.std.proofs.Common.{◌∙◌, sym}
use Rattle.loaded_files.proofs.Went.{unread}
use Rattle.service_bases.proofs.source.base_file.Goals as goal

pub returns-in_err-tree-clause-given : goal.returns-in_err-tree-clause-given
returns-in_err-tree-clause-given g c =
    let a = c.args in
    let p = err_from_is_err_and c.from_residual.result c.from_residual.ensures.1 in
    rw (p.1, p.2) (base_unread (g.F.Files.told a.files.now) a.env.now a.path.now a.left c.in_err-tree.field-0.0 c.in_err-tree.ensures.given)

pub returns-in_err-whole-clause-given : goal.returns-in_err-whole-clause-given
returns-in_err-whole-clause-given g c =
    let a = c.args in
    let p = err_from_is_err_and c.from_residual-in_err-whole.result c.from_residual-in_err-whole.ensures.1 in
    rw (p.1, p.2) (base_misshaped (g.F.Files.told a.files.now) a.env.now a.path.now a.left c.in_ok-tree.tree c.in_ok-tree.left c.in_ok-tree.ensures.given c.in_err-whole.field-0.0 c.in_err-whole.ensures.given)

pub returns-clause-given : goal.returns-clause-given
returns-clause-given g c =
    let a = c.args in
    base_there (g.F.Files.told a.files.now) a.env.now a.path.now a.left c.in_ok-tree.tree c.in_ok-tree.left c.in_ok-tree.ensures.given c.in_ok-whole.whole c.in_ok-base_source.field-0
    c.in_ok-whole.ensures.given c.in_ok-base_source.ensures

pub returns-in_err-tree-clause-reads : goal.returns-in_err-tree-clause-reads
returns-in_err-tree-clause-reads g c =
    let p = err_from_is_err_and c.from_residual.result c.from_residual.ensures.1 in
    rw (p.1, p.2) c.in_err-tree.ensures.reads

pub returns-in_err-whole-clause-reads : goal.returns-in_err-whole-clause-reads
returns-in_err-whole-clause-reads g c =
    let p = err_from_is_err_and c.from_residual-in_err-whole.result c.from_residual-in_err-whole.ensures.1 in
    rw (p.1, p.2) (λ well. c.in_ok-tree.ensures.reads well ∙ sym (unread c.in_err-whole.field-0.0 c.in_err-whole.ensures.fault))
