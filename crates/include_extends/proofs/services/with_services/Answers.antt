use Rattle.std.proofs.lemmas.Result.{err_from_is_err_and}
use Rattle.include_extends.proofs.Completed.{tree_refused, tree_there}
use Rattle.include_extends.proofs.services.with_services.Goals as goal

pub returns-in_err-tree-clause-given : goal.returns-in_err-tree-clause-given
returns-in_err-tree-clause-given g c =
    let a = c.args in
    let p = err_from_is_err_and c.from_residual.result c.from_residual.ensures.1 in
    rw (p.1, p.2) (tree_refused (g.F.Files.told a.files.now) a.file.now a.own c.in_err-tree.field-0.0 c.in_err-tree.ensures.given)

pub returns-clause-given : goal.returns-clause-given
returns-clause-given g c =
    let a = c.args in
    tree_there (g.F.Files.told a.files.now) a.file.now a.own c.in_ok-tree.tree c.in_ok-tree.left c.in_ok-tree.ensures.given

pub returns-in_err-tree-clause-reads : goal.returns-in_err-tree-clause-reads
returns-in_err-tree-clause-reads g c =
    let p = err_from_is_err_and c.from_residual.result c.from_residual.ensures.1 in
    rw (p.1, p.2) c.in_err-tree.ensures.reads
