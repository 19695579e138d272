-- The slot's row is there, or it isn't.
use Rattle.std.proofs.Common.{◌∙◌, ap, sym}
use Rattle.std.proofs.lemmas.Result.{err_from_is_err_and}
use Rattle.std.specs.Option.{option_copied}
use Rattle.wait_run.proofs.slots.put_goal.Goals as goal

pub returns-in_err-row : goal.returns-in_err-row
returns-in_err-row c =
    let p = err_from_is_err_and c.from_residual.result c.from_residual.ensures.1 in
    rw (p.1, p.2) tt

pub returns-in_err-push-in-Some : goal.returns-in_err-push-in-Some
returns-in_err-push-in-Some c =
    let p = err_from_is_err_and c.from_residual-in_err-push-in-Some.result c.from_residual-in_err-push-in-Some.ensures.1 in
    rw (p.1, p.2) tt

pub returns-in_ok-push-in-Some : goal.returns-in_ok-push-in-Some
returns-in_ok-push-in-Some c = (c.in-Some.row.now, sym c.in_ok-row.ensures ∙ ap option_copied c.in-Some.is, c.in_ok-push-in-Some.ensures.pushed, c.in_ok-push-in-Some.ensures.few)

pub returns-in_err-name-in-None : goal.returns-in_err-name-in-None
returns-in_err-name-in-None c =
    let p = err_from_is_err_and c.from_residual-in_err-name-in-None.result c.from_residual-in_err-name-in-None.ensures.1 in
    rw (p.1, p.2) tt

pub returns-in_ok-name-in-None : goal.returns-in_ok-name-in-None
returns-in_ok-name-in-None c = (sym c.in_ok-row.ensures ∙ ap option_copied c.in-None.is, c.in_ok-name-in-None.ensures)
