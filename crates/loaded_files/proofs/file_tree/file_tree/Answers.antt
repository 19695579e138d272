use Rattle.std.proofs.lemmas.Result.{err_from_is_err_and}
use Rattle.loaded_files.proofs.Files.{no_text, no_values, values_there}
use Rattle.loaded_files.proofs.file_tree.file_tree.Goals as goal

pub returns-in_err-tree-clause-given : goal.returns-in_err-tree-clause-given
returns-in_err-tree-clause-given c = λ told.
    let p = err_from_is_err_and c.from_residual.result c.from_residual.ensures.1 in
    rw (p.1, p.2) (no_text told c.args.env.now c.args.path.now c.args.bytes.now c.in_err-tree.field-0.0 (c.in_err-tree.ensures.given))

pub returns-in_err-valued-clause-given : goal.returns-in_err-valued-clause-given
returns-in_err-valued-clause-given c = λ told.
    let p = err_from_is_err_and c.from_residual-in_err-valued.result c.from_residual-in_err-valued.ensures.1 in
    rw (p.1, p.2) (no_values told c.args.env.now c.args.path.now c.args.bytes.now c.in_ok-tree.tree c.in_ok-tree.ensures.given c.in_err-valued.field-0.0 c.in_err-valued.ensures.given)

pub returns-clause-given : goal.returns-clause-given
returns-clause-given c = λ told.
    values_there told c.args.env.now c.args.path.now c.args.bytes.now c.in_ok-tree.tree c.in_ok-tree.ensures.given c.in_ok-valued.valued c.long.result c.in_ok-valued.ensures.given c.long.ensures.given
