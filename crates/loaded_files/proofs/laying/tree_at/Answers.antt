use Rattle.std.proofs.lemmas.Result.{err_from_is_err_and}
use Rattle.loaded_files.proofs.Files.{no_tree, tree_there, unseen, untaken}
use Rattle.std.proofs.Common.{◌∙◌, sym}
use Rattle.loaded_files.proofs.Went.{unread}
use Rattle.loaded_files.proofs.laying.tree_at.Goals as goal

pub returns-in_err-seen-clause-given : goal.returns-in_err-seen-clause-given
returns-in_err-seen-clause-given g c =
    let a = c.args in
    let p = err_from_is_err_and c.from_residual.result c.from_residual.ensures.1 in
    rw (p.1, p.2) (unseen (g.F.Files.told a.files.now) a.env.now a.path.now a.found a.left c.in_err-seen.field-0.0 c.in_err-seen.ensures.given)

pub returns-in_err-bytes-clause-given : goal.returns-in_err-bytes-clause-given
returns-in_err-bytes-clause-given g c =
    let a = c.args in
    let told = g.F.Files.told a.files.now in
    let p = err_from_is_err_and c.from_residual-in_err-bytes.result c.from_residual-in_err-bytes.ensures.1 in
    rw (p.1, p.2) (untaken told a.env.now a.path.now a.found a.left c.in_ok-seen.seen c.in_ok-seen.ensures.given c.in_err-bytes.field-0.0 (c.in_err-bytes.ensures.given told))

pub returns-in_err-file_tree-clause-given : goal.returns-in_err-file_tree-clause-given
returns-in_err-file_tree-clause-given g c =
    let a = c.args in
    let told = g.F.Files.told a.files.now in
    let p = err_from_is_err_and c.from_residual-in_err-file_tree.result c.from_residual-in_err-file_tree.ensures.1 in
    rw (p.1, p.2) (no_tree told a.env.now a.path.now a.found a.left c.in_ok-seen.seen c.in_ok-seen.ensures.given c.in_ok-bytes.bytes c.in_ok-bytes.left (c.in_ok-bytes.ensures.given told)
    c.in_err-file_tree.field-0.0 (rw c.as_slice.ensures at (c.in_err-file_tree.ensures.given told)))

pub returns-clause-given : goal.returns-clause-given
returns-clause-given g c =
    let a = c.args in
    let told = g.F.Files.told a.files.now in
    tree_there told a.env.now a.path.now a.found a.left c.in_ok-seen.seen c.in_ok-seen.ensures.given c.in_ok-bytes.bytes c.in_ok-bytes.left (c.in_ok-bytes.ensures.given told)
    c.in_ok-file_tree.field-0 (rw c.as_slice.ensures at (c.in_ok-file_tree.ensures.given told))

pub returns-in_err-seen-clause-reads : goal.returns-in_err-seen-clause-reads
returns-in_err-seen-clause-reads g c =
    let p = err_from_is_err_and c.from_residual.result c.from_residual.ensures.1 in
    rw (p.1, p.2) c.in_err-seen.ensures.reads

pub returns-in_err-bytes-clause-reads : goal.returns-in_err-bytes-clause-reads
returns-in_err-bytes-clause-reads g c =
    let p = err_from_is_err_and c.from_residual-in_err-bytes.result c.from_residual-in_err-bytes.ensures.1 in
    rw (p.1, p.2) (λ well. c.in_ok-seen.ensures.reads well ∙ sym (unread c.in_err-bytes.field-0.0 c.in_err-bytes.ensures.fault))

pub returns-in_err-file_tree-clause-reads : goal.returns-in_err-file_tree-clause-reads
returns-in_err-file_tree-clause-reads g c =
    let p = err_from_is_err_and c.from_residual-in_err-file_tree.result c.from_residual-in_err-file_tree.ensures.1 in
    rw (p.1, p.2) (λ well. c.in_ok-seen.ensures.reads well ∙ sym (unread c.in_err-file_tree.field-0.0 c.in_err-file_tree.ensures.fault))
