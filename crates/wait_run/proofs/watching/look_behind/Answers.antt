-- The container that the event names is a slot's and is looked at, or it is none's.
use Rattle.std.proofs.Common.{◌∙◌, None, inr, refl}
use Rattle.wait_run.proofs.Pieces.{event_steps}
use Rattle.wait_run.proofs.Streaming.{event_next, event_passed}
use Rattle.std.specs.Prelude.{Some}
use Rattle.wait_run.proofs.watching.look_behind.Goals as goal

pub returns-in-Some : goal.returns-in-Some
returns-in-Some g c = λ declared rows body taken from reader behind after has open_still.
    let event = c.args.event.now in
    let is = c.in-Some.ensures ∙ after.way.goals_are.found event.id in
    event_steps declared rows body taken event from _ _ reader behind c.args.goals.now c.look.new.goals after has c.in-Some.s is c.look.result
    (c.look.ensures declared rows body after.n from after.way (event_next declared rows body taken event from _ reader behind c.args.goals.now after has (Some c.in-Some.s) is c.in-Some.s refl) (inr open_still))

pub returns-in-None : goal.returns-in-None
returns-in-None g c = λ declared rows body taken from reader behind after has open_still.
    let event = c.args.event.now in
    let is = c.in-None.ensures ∙ after.way.goals_are.found event.id in
    event_passed declared rows body taken event from _ reader behind c.args.goals.now after has None is refl
