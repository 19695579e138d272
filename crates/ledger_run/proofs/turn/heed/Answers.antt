use Rattle.std.proofs.Common.{List, true, false, length, ap, ◌∙◌}
use Rattle.std.proofs.lemmas.Bool.{le-leb, lt-leb}
use Rattle.engine_types.specs.declared.Exchange.{Exchange}
use Rattle.outside_api.specs.Clock.{Clock, after_asked, read_at}
use Rattle.ledger_run.specs.Tellings.{telling}
use Rattle.ledger_run.proofs.Heeding.{heeds_early, heeds_late, heeds_none, heeds_stop}
use Rattle.ledger_run.proofs.Turning.{told_again}
use Rattle.ledger_run.proofs.turn.heed.Goals as goal

pub returns-then-stops : goal.returns-then-stops
returns-then-stops g c =
    heeds_stop c.args.deadline c.args.ledger.now c.stop.new.self
    (telling (g.H.Hand.log c.args.hand.now) (g.H.Hand.heard c.args.hand.now) (g.H.Hand.faults c.args.hand.now) (g.H.Hand.clock c.args.hand.now) (g.H.Hand.engine c.args.hand.now))
    (telling (g.H.Hand.log c.asked-stops.new.self) (g.H.Hand.heard c.asked-stops.new.self) (g.H.Hand.faults c.asked-stops.new.self) (g.H.Hand.clock c.asked-stops.new.self) (g.H.Hand.engine c.asked-stops.new.self))
    c.stop.ensures
    (told_again (g.H.Hand.log c.args.hand.now) (g.H.Hand.log c.asked-stops.new.self) (g.H.Hand.heard c.args.hand.now) (g.H.Hand.heard c.asked-stops.new.self) (g.H.Hand.faults c.args.hand.now) (g.H.Hand.faults c.asked-stops.new.self) (after_asked (g.H.Hand.clock c.args.hand.now) true) (g.H.Hand.clock c.asked-stops.new.self) (g.H.Hand.engine c.args.hand.now) (g.H.Hand.engine c.asked-stops.new.self)
    c.asked-stops.ensures.log c.asked-stops.ensures.heard c.asked-stops.ensures.faults (c.asked-stops.ensures.clock ∙ ap (after_asked (g.H.Hand.clock c.args.hand.now)) c.if-stops.true) c.asked-stops.ensures.engine)

pub returns-then-is_late : goal.returns-then-is_late
returns-then-is_late g c =
    heeds_late c.args.deadline c.in-Some.deadline c.now-reading.result c.args.ledger.now c.late.new.self
    (telling (g.H.Hand.log c.args.hand.now) (g.H.Hand.heard c.args.hand.now) (g.H.Hand.faults c.args.hand.now) (g.H.Hand.clock c.args.hand.now) (g.H.Hand.engine c.args.hand.now))
    (telling (g.H.Hand.log c.now-reading.new.self) (g.H.Hand.heard c.now-reading.new.self) (g.H.Hand.faults c.now-reading.new.self) (g.H.Hand.clock c.now-reading.new.self) (g.H.Hand.engine c.now-reading.new.self))
    c.in-Some.is (le-leb c.in-Some.deadline c.now-reading.result c.if-is_late.true) c.late.ensures
    (told_again (g.H.Hand.log c.args.hand.now) (g.H.Hand.log c.now-reading.new.self) (g.H.Hand.heard c.args.hand.now) (g.H.Hand.heard c.now-reading.new.self) (g.H.Hand.faults c.args.hand.now) (g.H.Hand.faults c.now-reading.new.self) (read_at (length (g.H.Hand.log c.args.hand.now)) (after_asked (g.H.Hand.clock c.args.hand.now) false) c.now-reading.result) (g.H.Hand.clock c.now-reading.new.self) (g.H.Hand.engine c.args.hand.now) (g.H.Hand.engine c.now-reading.new.self)
    (c.now-reading.ensures.log ∙ c.asked-stops.ensures.log) (c.now-reading.ensures.heard ∙ c.asked-stops.ensures.heard) (c.now-reading.ensures.faults ∙ c.asked-stops.ensures.faults)
    (c.now-reading.ensures.clock ∙ ap (λ (k : Clock). read_at (length (g.H.Hand.log c.asked-stops.new.self)) k c.now-reading.result) (c.asked-stops.ensures.clock ∙ ap (after_asked (g.H.Hand.clock c.args.hand.now)) c.if-stops.false)
    ∙ ap (λ (l : List Exchange). read_at (length l) (after_asked (g.H.Hand.clock c.args.hand.now) false) c.now-reading.result) c.asked-stops.ensures.log) (c.now-reading.ensures.engine ∙ c.asked-stops.ensures.engine))

pub returns-else-is_late : goal.returns-else-is_late
returns-else-is_late g c =
    heeds_early c.args.deadline c.in-Some.deadline c.now-reading.result c.args.ledger.now
    (telling (g.H.Hand.log c.args.hand.now) (g.H.Hand.heard c.args.hand.now) (g.H.Hand.faults c.args.hand.now) (g.H.Hand.clock c.args.hand.now) (g.H.Hand.engine c.args.hand.now))
    (telling (g.H.Hand.log c.now-reading.new.self) (g.H.Hand.heard c.now-reading.new.self) (g.H.Hand.faults c.now-reading.new.self) (g.H.Hand.clock c.now-reading.new.self) (g.H.Hand.engine c.now-reading.new.self))
    c.in-Some.is (lt-leb c.in-Some.deadline c.now-reading.result c.if-is_late.false)
    (told_again (g.H.Hand.log c.args.hand.now) (g.H.Hand.log c.now-reading.new.self) (g.H.Hand.heard c.args.hand.now) (g.H.Hand.heard c.now-reading.new.self) (g.H.Hand.faults c.args.hand.now) (g.H.Hand.faults c.now-reading.new.self) (read_at (length (g.H.Hand.log c.args.hand.now)) (after_asked (g.H.Hand.clock c.args.hand.now) false) c.now-reading.result) (g.H.Hand.clock c.now-reading.new.self) (g.H.Hand.engine c.args.hand.now) (g.H.Hand.engine c.now-reading.new.self)
    (c.now-reading.ensures.log ∙ c.asked-stops.ensures.log) (c.now-reading.ensures.heard ∙ c.asked-stops.ensures.heard) (c.now-reading.ensures.faults ∙ c.asked-stops.ensures.faults)
    (c.now-reading.ensures.clock ∙ ap (λ (k : Clock). read_at (length (g.H.Hand.log c.asked-stops.new.self)) k c.now-reading.result) (c.asked-stops.ensures.clock ∙ ap (after_asked (g.H.Hand.clock c.args.hand.now)) c.if-stops.false)
    ∙ ap (λ (l : List Exchange). read_at (length l) (after_asked (g.H.Hand.clock c.args.hand.now) false) c.now-reading.result) c.asked-stops.ensures.log) (c.now-reading.ensures.engine ∙ c.asked-stops.ensures.engine))

pub returns-in_default : goal.returns-in_default
returns-in_default g c =
    heeds_none c.args.deadline c.args.ledger.now
    (telling (g.H.Hand.log c.args.hand.now) (g.H.Hand.heard c.args.hand.now) (g.H.Hand.faults c.args.hand.now) (g.H.Hand.clock c.args.hand.now) (g.H.Hand.engine c.args.hand.now))
    (telling (g.H.Hand.log c.asked-stops.new.self) (g.H.Hand.heard c.asked-stops.new.self) (g.H.Hand.faults c.asked-stops.new.self) (g.H.Hand.clock c.asked-stops.new.self) (g.H.Hand.engine c.asked-stops.new.self))
    c.in_default.is
    (told_again (g.H.Hand.log c.args.hand.now) (g.H.Hand.log c.asked-stops.new.self) (g.H.Hand.heard c.args.hand.now) (g.H.Hand.heard c.asked-stops.new.self) (g.H.Hand.faults c.args.hand.now) (g.H.Hand.faults c.asked-stops.new.self) (after_asked (g.H.Hand.clock c.args.hand.now) false) (g.H.Hand.clock c.asked-stops.new.self) (g.H.Hand.engine c.args.hand.now) (g.H.Hand.engine c.asked-stops.new.self)
    c.asked-stops.ensures.log c.asked-stops.ensures.heard c.asked-stops.ensures.faults (c.asked-stops.ensures.clock ∙ ap (after_asked (g.H.Hand.clock c.args.hand.now)) c.if-stops.false) c.asked-stops.ensures.engine)
