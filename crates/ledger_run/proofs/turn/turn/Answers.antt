use Rattle.std.proofs.Common.{arith}
use Rattle.ledger_run.specs.Tellings.{telling}
use Rattle.ledger_run.proofs.Heeding.{still_paused, still_ready}
use Rattle.ledger_run.proofs.turn.turn.Goals as goal

pub act-requires-clause-ready : goal.act-requires-clause-ready
act-requires-clause-ready g c = still_ready c.args.deadline c.args.ledger.now c.heed.new.ledger
    (telling (g.H.Hand.log c.args.hand.now) (g.H.Hand.heard c.args.hand.now) (g.H.Hand.faults c.args.hand.now) (g.H.Hand.clock c.args.hand.now) (g.H.Hand.engine c.args.hand.now))
    (telling (g.H.Hand.log c.heed.new.hand) (g.H.Hand.heard c.heed.new.hand) (g.H.Hand.faults c.heed.new.hand) (g.H.Hand.clock c.heed.new.hand) (g.H.Hand.engine c.heed.new.hand))
    c.requires.may.ready c.heed.ensures

pub act-requires-clause-clock : goal.act-requires-clause-clock
act-requires-clause-clock g c =
    let e = still_paused c.args.deadline c.args.ledger.now c.heed.new.ledger
    (telling (g.H.Hand.log c.args.hand.now) (g.H.Hand.heard c.args.hand.now) (g.H.Hand.faults c.args.hand.now) (g.H.Hand.clock c.args.hand.now) (g.H.Hand.engine c.args.hand.now))
    (telling (g.H.Hand.log c.heed.new.hand) (g.H.Hand.heard c.heed.new.hand) (g.H.Hand.faults c.heed.new.hand) (g.H.Hand.clock c.heed.new.hand) (g.H.Hand.engine c.heed.new.hand))
    c.heed.ensures in
    let l = c.requires.clock.paused in omega (arith, e, l)

pub returns : goal.returns
returns g c = record {
  mid = c.heed.new.ledger;
  between = (telling (g.H.Hand.log c.heed.new.hand) (g.H.Hand.heard c.heed.new.hand) (g.H.Hand.faults c.heed.new.hand) (g.H.Hand.clock c.heed.new.hand) (g.H.Hand.engine c.heed.new.hand));
  heeds = c.heed.ensures;
  acts = c.act.ensures;
}
