use Rattle.std.proofs.lemmas.Result.{err_from_is_err_and}
use Rattle.include_extends.proofs.Completed.{elements_refused, past_limits, within_limits}
use Rattle.std.proofs.Common.{◌∙◌, sym}
use Rattle.loaded_files.proofs.Went.{unread}
use Rattle.include_extends.proofs.services.elements_loaded.Goals as goal

pub returns-in_err-all-clause-given : goal.returns-in_err-all-clause-given
returns-in_err-all-clause-given g c =
    let a = c.args in
    let p = err_from_is_err_and c.from_residual.result c.from_residual.ensures.1 in
    rw (p.1, p.2) (elements_refused (g.F.Files.told a.files.now) a.env.now a.file.now a.top a.left c.in_err-all.field-0.0 c.in_err-all.ensures.given)

pub returns-in_err-bounded-clause-given : goal.returns-in_err-bounded-clause-given
returns-in_err-bounded-clause-given g c =
    let a = c.args in
    let p = err_from_is_err_and c.from_residual-in_err-bounded.result c.from_residual-in_err-bounded.ensures.1 in
    rw (p.1, p.2) (past_limits (g.F.Files.told a.files.now) a.env.now a.file.now a.top a.left c.in_ok-all.all c.in_ok-all.left c.in_ok-all.ensures.given
    c.in_err-bounded.field-0.0 (rw c.in_ok-tree.ensures at c.in_err-bounded.ensures.given))

pub returns-clause-given : goal.returns-clause-given
returns-clause-given g c =
    let a = c.args in
    within_limits (g.F.Files.told a.files.now) a.env.now a.file.now a.top a.left c.in_ok-all.all c.in_ok-all.left c.in_ok-all.ensures.given
    c.in_ok-bounded.field-0 (rw c.in_ok-tree.ensures at c.in_ok-bounded.ensures.given)

pub returns-in_err-all-clause-reads : goal.returns-in_err-all-clause-reads
returns-in_err-all-clause-reads g c =
    let p = err_from_is_err_and c.from_residual.result c.from_residual.ensures.1 in
    rw (p.1, p.2) c.in_err-all.ensures.reads

pub returns-in_err-bounded-clause-reads : goal.returns-in_err-bounded-clause-reads
returns-in_err-bounded-clause-reads g c =
    let p = err_from_is_err_and c.from_residual-in_err-bounded.result c.from_residual-in_err-bounded.ensures.1 in
    rw (p.1, p.2) (λ well. c.in_ok-all.ensures.reads well ∙ sym (unread c.in_err-bounded.field-0.0 c.in_err-bounded.ensures.fault))
