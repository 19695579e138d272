use Rattle.std.proofs.Common.{subst, sym}
use Rattle.engine_types.specs.declared.SeenEnd.{SeenEnd}
use Rattle.ledger_run.specs.Tellings.{telling}
use Rattle.project_run.specs.Opening.{IsWholeEnd, observation_of}
use Rattle.project_run.proofs.Opened.{opened, opened_badly}
use Rattle.project_run.proofs.opening.open.Goals as goal

pub returns-in-Good : goal.returns-in-Good
returns-in-Good g c =
    opened c.args.declared.now c.args.aim c.observe-exchanges.result c.after_seen.result
    (telling (g.H.Hand.log c.args.hand.now) (g.H.Hand.heard c.args.hand.now) (g.H.Hand.faults c.args.hand.now) (g.H.Hand.clock c.args.hand.now) (g.H.Hand.engine c.args.hand.now))
    (telling (g.H.Hand.log c.observe-exchanges.new.hand) (g.H.Hand.heard c.observe-exchanges.new.hand) (g.H.Hand.faults c.observe-exchanges.new.hand) (g.H.Hand.clock c.observe-exchanges.new.hand) (g.H.Hand.engine c.observe-exchanges.new.hand))
    c.observe-exchanges.ensures.observed c.after_seen.ensures.exchanges
    (subst (λ (end : SeenEnd). IsWholeEnd c.args.declared.now c.args.aim end (observation_of c.after_seen.result).end) (sym c.in-Good.is) c.after_seen.ensures.end) c.after_seen.ensures.follows
    c.observe-exchanges.ensures.log c.observe-exchanges.ensures.told c.observe-exchanges.ensures.caused c.observe-exchanges.ensures.cause c.observe-exchanges.ensures.clock

pub returns-in-Bad : goal.returns-in-Bad
returns-in-Bad g c =
    opened_badly c.args.declared.now c.args.aim c.observe-exchanges.result c.in-Bad.fault c.ended.result
    (telling (g.H.Hand.log c.args.hand.now) (g.H.Hand.heard c.args.hand.now) (g.H.Hand.faults c.args.hand.now) (g.H.Hand.clock c.args.hand.now) (g.H.Hand.engine c.args.hand.now))
    (telling (g.H.Hand.log c.observe-exchanges.new.hand) (g.H.Hand.heard c.observe-exchanges.new.hand) (g.H.Hand.faults c.observe-exchanges.new.hand) (g.H.Hand.clock c.observe-exchanges.new.hand) (g.H.Hand.engine c.observe-exchanges.new.hand))
    c.observe-exchanges.ensures.observed c.in-Bad.is c.ended.ensures
    c.observe-exchanges.ensures.log c.observe-exchanges.ensures.told c.observe-exchanges.ensures.caused c.observe-exchanges.ensures.cause c.observe-exchanges.ensures.clock
