use Rattle.std.proofs.lemmas.Result.{err_from_is_err_and}
use Rattle.include_extends.proofs.Files.{is_placed, misshaped}
use Rattle.include_extends.proofs.model.placed.Goals as goal

pub returns-in_err-tree-clause-given : goal.returns-in_err-tree-clause-given
returns-in_err-tree-clause-given c = λ told.
    let a = c.args in
    let p = err_from_is_err_and c.from_residual.result c.from_residual.ensures.1 in
    rw (p.1, p.2) (misshaped told a.directory.now a.env.now a.tree c.in_err-tree.field-0.0 c.in_err-tree.ensures.given)

pub returns-clause-given : goal.returns-clause-given
returns-clause-given c = λ told.
    let a = c.args in
    is_placed told a.directory.now a.env.now a.tree c.in_ok-tree.tree c.with_paths.result c.in_ok-tree.ensures.given c.with_paths.ensures.given
