-- A look is made and its report taken, or it ends the wait.
use Rattle.std.proofs.Common.{◌≡◌, ◌∙◌, Some, true, false, ap, refl, slice_get, subst, sym}
use Rattle.std.proofs.lemmas.Result.{err_from_is_err_and}
use Rattle.std.specs.Prelude.{Ok}
use Rattle.wait_run.specs.Taking.{TakesBy}
use Rattle.wait_run.proofs.Looks.{look_not, look_took, look_unsent, look_untaken, not_there}
use Rattle.wait_run.proofs.looking.look.Goals as goal

pub returns-in_default : goal.returns-in_default
returns-in_default g c = λ declared rows body n from way next open_still.
    absurd (not_there declared rows body n from _ c.args.goals.now way c.args.s next (sym c.in_default.ensures.value))

pub returns-in_err-id : goal.returns-in_err-id
returns-in_err-id g c = λ declared rows body n from way next open_still.
    let p = err_from_is_err_and c.from_residual.result c.from_residual.ensures.1 in
    rw (p.1, p.2) (look_unsent declared rows body n from _ _ c.args.goals.now way refl)

pub returns-in_err-exchange : goal.returns-in_err-exchange
returns-in_err-exchange g c = λ declared rows body n from way next open_still.
    let p = err_from_is_err_and c.from_residual-in_err-exchange.result c.from_residual-in_err-exchange.ensures.1 in
    rw (p.1, p.2) (look_unsent declared rows body n from _ _ c.args.goals.now way c.in_err-exchange.ensures)

pub returns-then-taken : goal.returns-then-taken
returns-then-taken g c = λ declared rows body n from way next open_still.
    let id_is : slice_get c.args.goals.now.containers c.args.s ≡ Some c.in_ok-id.id = sym c.in-Some.ensures.value ∙ ap Some (sym c.in_ok-id.ensures) in
    let takes : TakesBy c.args.s c.in_ok-exchange.exchange.outcome (Ok true) c.args.goals.now c.take_report.new.goals =
    subst (λ b. TakesBy c.args.s c.in_ok-exchange.exchange.outcome (Ok b) c.args.goals.now c.take_report.new.goals) c.if-taken.true c.in-Ok.ensures in
    look_took declared rows body n from _ c.args.goals.now way c.args.s next open_still c.in_ok-id.id id_is c.in_ok-exchange.exchange _ c.in_ok-exchange.ensures.0 c.in_ok-exchange.ensures.1
    takes.0 c.take_report.new.goals takes.1 takes.2

pub returns-else-taken : goal.returns-else-taken
returns-else-taken g c = λ declared rows body n from way next open_still.
    let id_is : slice_get c.args.goals.now.containers c.args.s ≡ Some c.in_ok-id.id = sym c.in-Some.ensures.value ∙ ap Some (sym c.in_ok-id.ensures) in
    let takes : TakesBy c.args.s c.in_ok-exchange.exchange.outcome (Ok false) c.args.goals.now c.take_report.new.goals =
    subst (λ b. TakesBy c.args.s c.in_ok-exchange.exchange.outcome (Ok b) c.args.goals.now c.take_report.new.goals) c.if-taken.false c.in-Ok.ensures in
    rw takes.1
    (look_not declared rows body n from _ c.args.goals.now way c.args.s next open_still c.in_ok-id.id id_is c.in_ok-exchange.exchange _ c.in_ok-exchange.ensures.0 c.in_ok-exchange.ensures.1
    c.refused_by.result takes.0 c.refused_by.ensures)

pub returns-in-Err : goal.returns-in-Err
returns-in-Err g c = λ declared rows body n from way next open_still.
    let id_is : slice_get c.args.goals.now.containers c.args.s ≡ Some c.in_ok-id.id = sym c.in-Some.ensures.value ∙ ap Some (sym c.in_ok-id.ensures) in
    let takes = c.in-Err.ensures in
    look_untaken declared rows body n from _ c.args.goals.now way c.args.s next open_still c.in_ok-id.id id_is c.in_ok-exchange.exchange _ c.in_ok-exchange.ensures.0 c.in_ok-exchange.ensures.1
    takes.0 c.take_report.new.goals takes.1 takes.2
