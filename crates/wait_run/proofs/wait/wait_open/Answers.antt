-- The containers were listed and looked at, or the listing ended the wait.
use Rattle.std.proofs.Common.{arith}
use Rattle.outside_api.specs.Standings.{standing}
use Rattle.wait_run.proofs.Ending.{listing_so, watches_so}
use Rattle.wait_run.proofs.wait.wait_open.Goals as goal

pub returns-in-Ok : goal.returns-in-Ok
returns-in-Ok g c = record {
  counted = c.look_and_watch-end.ensures.counted;
  ends = λ talk faults reads low.
      watches_so c.args.declared.now c.in-Ok.ensures.0 (standing (g.H.Hand.log c.args.hand.now) (g.H.Hand.engine c.args.hand.now) (g.H.Hand.heard c.args.hand.now) (g.H.Hand.faults c.args.hand.now) (g.H.Hand.clock c.args.hand.now))
      (standing (g.H.Hand.log c.look_and_watch-end.new.hand) (g.H.Hand.engine c.look_and_watch-end.new.hand) (g.H.Hand.heard c.look_and_watch-end.new.hand) (g.H.Hand.faults c.look_and_watch-end.new.hand) (g.H.Hand.clock c.look_and_watch-end.new.hand))
      c.look_and_watch-end.new.goals c.waited.result talk (g.P.Pipe.talk c.look_and_watch-end.new.stream) faults (g.P.Pipe.faults c.look_and_watch-end.new.stream) c.look_and_watch-end.result c.waited.ensures.met
      (c.look_and_watch-end.ensures.watches c.args.declared.now c.in-Ok.ensures.0 (standing (g.H.Hand.log c.args.hand.now) (g.H.Hand.engine c.args.hand.now) (g.H.Hand.heard c.args.hand.now) (g.H.Hand.faults c.args.hand.now) (g.H.Hand.clock c.args.hand.now)) talk faults c.in-Ok.ensures.1 reads low)
      c.waited.ensures.refusal;
}

pub returns-in-Err : goal.returns-in-Err
returns-in-Err g c = record {
  counted = omega arith;
  ends = λ talk faults reads low.
      listing_so c.args.declared.now (standing (g.H.Hand.log c.args.hand.now) (g.H.Hand.engine c.args.hand.now) (g.H.Hand.heard c.args.hand.now) (g.H.Hand.faults c.args.hand.now) (g.H.Hand.clock c.args.hand.now))
      (standing (g.H.Hand.log c.list.new.hand) (g.H.Hand.engine c.list.new.hand) (g.H.Hand.heard c.list.new.hand) (g.H.Hand.faults c.list.new.hand) (g.H.Hand.clock c.list.new.hand))
      c.args.body.now talk (g.P.Pipe.talk c.args.stream.now) faults (g.P.Pipe.faults c.args.stream.now) c.in-Err.refusal c.unmet.result reads c.in-Err.ensures c.unmet.ensures.refusal c.unmet.ensures.met;
}
