use Rattle.std.proofs.lemmas.Result.{err_from_is_err_and}
use Rattle.loaded_files.proofs.Files.{over_refused, over_there}
use Rattle.loaded_files.proofs.laying.over_laid.Goals as goal

pub returns-in_err-tree-clause-given : goal.returns-in_err-tree-clause-given
returns-in_err-tree-clause-given c = λ told.
    let p = err_from_is_err_and c.from_residual.result c.from_residual.ensures.1 in
    rw (p.1, p.2) (over_refused told c.args.path.now c.args.base c.args.over c.args.left c.in_err-tree.field-0.0 c.in_err-tree.ensures.given)

pub returns-clause-given : goal.returns-clause-given
returns-clause-given c = λ told. over_there told c.args.path.now c.args.base c.args.over c.args.left c.in_ok-tree.tree c.in_ok-tree.ensures.given
