use Rattle.ledger_run.specs.Tellings.{telling}
use Rattle.ledger_run.proofs.Turning.{fell_short, has_paused, holds_watch, holds_work, idled, is_watch, is_work, left, watched, worked}
use Rattle.ledger_run.proofs.turn.act.Goals as goal

pub exchange-requires : goal.exchange-requires
exchange-requires g c =
    holds_work c.args.ledger.now c.ask.new.ledger c.in-Work.permit c.in-Work.request
    (is_work c.args.ledger.now c.ask.new.ledger c.in-Work.permit c.in-Work.request c.in-Work.ensures.decided c.in-Work.ensures.asks c.in-Work.ensures.entered)

pub watch-requires-clause-held : goal.watch-requires-clause-held
watch-requires-clause-held g c =
    holds_watch c.args.ledger.now c.ask.new.ledger c.in-Watch.permit c.in-Watch.request
    (is_watch c.args.ledger.now c.ask.new.ledger c.in-Watch.permit c.in-Watch.request c.in-Watch.ensures.decided c.in-Watch.ensures.asks c.in-Watch.ensures.entered)

pub returns-in-Work : goal.returns-in-Work
returns-in-Work g c =
    worked c.args.ledger.now c.ask.new.ledger c.exchange.new.ledger c.in-Work.permit c.in-Work.request
    (telling (g.H.Hand.log c.args.hand.now) (g.H.Hand.heard c.args.hand.now) (g.H.Hand.faults c.args.hand.now) (g.H.Hand.clock c.args.hand.now) (g.H.Hand.engine c.args.hand.now))
    (telling (g.H.Hand.log c.exchange.new.hand) (g.H.Hand.heard c.exchange.new.hand) (g.H.Hand.faults c.exchange.new.hand) (g.H.Hand.clock c.exchange.new.hand) (g.H.Hand.engine c.exchange.new.hand))
    (is_work c.args.ledger.now c.ask.new.ledger c.in-Work.permit c.in-Work.request c.in-Work.ensures.decided c.in-Work.ensures.asks c.in-Work.ensures.entered)
    c.exchange.ensures

pub returns-in-Watch : goal.returns-in-Watch
returns-in-Watch g c =
    watched c.args.ledger.now c.ask.new.ledger c.watch.new.ledger c.in-Watch.permit c.in-Watch.request
    (telling (g.H.Hand.log c.args.hand.now) (g.H.Hand.heard c.args.hand.now) (g.H.Hand.faults c.args.hand.now) (g.H.Hand.clock c.args.hand.now) (g.H.Hand.engine c.args.hand.now))
    (telling (g.H.Hand.log c.watch.new.hand) (g.H.Hand.heard c.watch.new.hand) (g.H.Hand.faults c.watch.new.hand) (g.H.Hand.clock c.watch.new.hand) (g.H.Hand.engine c.watch.new.hand))
    (is_watch c.args.ledger.now c.ask.new.ledger c.in-Watch.permit c.in-Watch.request c.in-Watch.ensures.decided c.in-Watch.ensures.asks c.in-Watch.ensures.entered)
    c.watch.ensures

pub returns-in-Idle : goal.returns-in-Idle
returns-in-Idle g c =
    idled c.args.ledger.now c.ask.new.ledger
    (telling (g.H.Hand.log c.args.hand.now) (g.H.Hand.heard c.args.hand.now) (g.H.Hand.faults c.args.hand.now) (g.H.Hand.clock c.args.hand.now) (g.H.Hand.engine c.args.hand.now))
    (telling (g.H.Hand.log c.pause.new.self) (g.H.Hand.heard c.pause.new.self) (g.H.Hand.faults c.pause.new.self) (g.H.Hand.clock c.pause.new.self) (g.H.Hand.engine c.pause.new.self))
    c.in-Idle.ensures.decided c.in-Idle.ensures.entered
    (has_paused 250
    (g.H.Hand.log c.args.hand.now) (g.H.Hand.log c.pause.new.self) (g.H.Hand.heard c.args.hand.now) (g.H.Hand.heard c.pause.new.self)
    (g.H.Hand.faults c.args.hand.now) (g.H.Hand.faults c.pause.new.self) (g.H.Hand.clock c.args.hand.now) (g.H.Hand.clock c.pause.new.self)
    (g.H.Hand.engine c.args.hand.now) (g.H.Hand.engine c.pause.new.self)
    c.pause.ensures.log c.pause.ensures.heard c.pause.ensures.faults c.pause.ensures.clock c.pause.ensures.engine)

pub returns-in-Leave : goal.returns-in-Leave
returns-in-Leave g c =
    left c.args.ledger.now c.ask.new.ledger
    (telling (g.H.Hand.log c.args.hand.now) (g.H.Hand.heard c.args.hand.now) (g.H.Hand.faults c.args.hand.now) (g.H.Hand.clock c.args.hand.now) (g.H.Hand.engine c.args.hand.now))
    c.in-Leave.ensures.decided c.in-Leave.ensures.entered

pub returns-in-Short : goal.returns-in-Short
returns-in-Short g c =
    fell_short c.args.ledger.now c.ask.new.ledger
    (telling (g.H.Hand.log c.args.hand.now) (g.H.Hand.heard c.args.hand.now) (g.H.Hand.faults c.args.hand.now) (g.H.Hand.clock c.args.hand.now) (g.H.Hand.engine c.args.hand.now))
    c.in-Short.ensures.decided c.in-Short.ensures.entered
