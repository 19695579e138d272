use Rattle.std.proofs.Common.{◌∙◌, ap, length, sym}
use Rattle.name_conflicts.proofs.Rounds.{asked_round, late_round, stopped_round, ticks}
use Rattle.outside_api.specs.Clock.{after_asked}
use Rattle.name_conflicts.proofs.looking.look_once.Goals as goal

pub returns-then-stops : goal.returns-then-stops
returns-then-stops g c = stopped_round c.args.project.now c.args.request.now c.args.deadline (g.H.Hand.log c.args.hand.now) (g.H.Hand.log c.asked-stops.new.self) (g.H.Hand.clock c.args.hand.now) (g.H.Hand.clock c.pause.new.self) (g.H.Hand.clock c.asked-stops.new.self)
    (c.asked-stops.ensures.log ∙ c.pause.ensures.log) c.pause.ensures.clock (c.asked-stops.ensures.clock ∙ ap (after_asked (g.H.Hand.clock c.pause.new.self)) c.if-stops.true)

pub returns-then-is_late : goal.returns-then-is_late
returns-then-is_late g c = late_round c.args.project.now c.args.request.now c.args.deadline (g.H.Hand.log c.args.hand.now) (g.H.Hand.log c.is_late-is_late.new.hand) (g.H.Hand.clock c.args.hand.now) (g.H.Hand.clock c.is_late-is_late.new.hand)
    (c.is_late-is_late.ensures.log ∙ (c.asked-stops.ensures.log ∙ c.pause.ensures.log))
    (ticks c.args.deadline (length (g.H.Hand.log c.asked-stops.new.self)) (g.H.Hand.clock c.args.hand.now) (g.H.Hand.clock c.pause.new.self) (g.H.Hand.clock c.asked-stops.new.self) (g.H.Hand.clock c.is_late-is_late.new.hand)
    c.pause.ensures.clock (c.asked-stops.ensures.clock ∙ ap (after_asked (g.H.Hand.clock c.pause.new.self)) c.if-stops.false) c.is_late-is_late.ensures.clock)
    (sym c.is_late-is_late.ensures.late ∙ c.if-is_late.true)

pub returns : goal.returns
returns g c = asked_round c.args.project.now c.args.request.now c.args.deadline c.look.result (g.H.Hand.log c.args.hand.now) (g.H.Hand.log c.is_late-is_late.new.hand) (g.H.Hand.log c.look.new.hand) (g.H.Hand.clock c.args.hand.now) (g.H.Hand.clock c.is_late-is_late.new.hand) (g.H.Hand.clock c.look.new.hand)
    (c.is_late-is_late.ensures.log ∙ (c.asked-stops.ensures.log ∙ c.pause.ensures.log))
    (ticks c.args.deadline (length (g.H.Hand.log c.asked-stops.new.self)) (g.H.Hand.clock c.args.hand.now) (g.H.Hand.clock c.pause.new.self) (g.H.Hand.clock c.asked-stops.new.self) (g.H.Hand.clock c.is_late-is_late.new.hand)
    c.pause.ensures.clock (c.asked-stops.ensures.clock ∙ ap (after_asked (g.H.Hand.clock c.pause.new.self)) c.if-stops.false) c.is_late-is_late.ensures.clock)
    (sym c.is_late-is_late.ensures.late ∙ c.if-is_late.false) c.look.ensures.sent c.look.ensures.clock
