use Rattle.ledger_run.specs.Tellings.{telling}
use Rattle.ledger_run.proofs.Turning.{has_paused}
use Rattle.ledger_run.proofs.turn.watch.Goals as goal

pub returns : goal.returns
returns g c = record {
  mid = (telling (g.H.Hand.log c.pause.new.self) (g.H.Hand.heard c.pause.new.self) (g.H.Hand.faults c.pause.new.self) (g.H.Hand.clock c.pause.new.self) (g.H.Hand.engine c.pause.new.self));
  pauses = has_paused 500
      (g.H.Hand.log c.args.hand.now) (g.H.Hand.log c.pause.new.self) (g.H.Hand.heard c.args.hand.now) (g.H.Hand.heard c.pause.new.self)
      (g.H.Hand.faults c.args.hand.now) (g.H.Hand.faults c.pause.new.self) (g.H.Hand.clock c.args.hand.now) (g.H.Hand.clock c.pause.new.self)
      (g.H.Hand.engine c.args.hand.now) (g.H.Hand.engine c.pause.new.self)
      c.pause.ensures.log c.pause.ensures.heard c.pause.ensures.faults c.pause.ensures.clock c.pause.ensures.engine;
  ends = c.exchange.ensures;
}
