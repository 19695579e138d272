-- The request was written, and the wait went on; or a part of it was.
use Rattle.std.proofs.Common.{arith}
use Rattle.outside_api.specs.Standings.{standing}
use Rattle.wait_run.proofs.Ending.{asked_so, unasked_so}
use Rattle.wait_run.proofs.wait.wait_run.Goals as goal

pub returns-in-Ok : goal.returns-in-Ok
returns-in-Ok g c =
    let ends = c.wait_asked.ensures.ends (g.P.Pipe.faults c.args.stream.now) c.send.ensures.counted in
    record {
      counted = omega (arith, c.send.ensures.counted, c.wait_asked.ensures.counted);
      clock = ends.comes.1.clock;
      waits = asked_so c.args.declared.now (standing (g.H.Hand.log c.args.hand.now) (g.H.Hand.engine c.args.hand.now) (g.H.Hand.heard c.args.hand.now) (g.H.Hand.faults c.args.hand.now) (g.H.Hand.clock c.args.hand.now))
          (standing (g.H.Hand.log c.wait_asked.new.hand) (g.H.Hand.engine c.wait_asked.new.hand) (g.H.Hand.heard c.wait_asked.new.hand) (g.H.Hand.faults c.wait_asked.new.hand) (g.H.Hand.clock c.wait_asked.new.hand))
          (g.P.Pipe.talk c.args.stream.now) (g.P.Pipe.talk c.send.new.stream) (g.P.Pipe.talk c.wait_asked.new.stream) (g.P.Pipe.faults c.args.stream.now) (g.P.Pipe.faults c.wait_asked.new.stream) c.wait_asked.result c.in-Ok.ensures.sends ends;
    }

pub returns-in-Err-clause-waits : goal.returns-in-Err-clause-waits
returns-in-Err-clause-waits g c =
    unasked_so c.args.declared.now (standing (g.H.Hand.log c.args.hand.now) (g.H.Hand.engine c.args.hand.now) (g.H.Hand.heard c.args.hand.now) (g.H.Hand.faults c.args.hand.now) (g.H.Hand.clock c.args.hand.now))
    (g.P.Pipe.talk c.args.stream.now) (g.P.Pipe.talk c.send.new.stream) (g.P.Pipe.faults c.args.stream.now) (g.P.Pipe.faults c.send.new.stream) c.in-Err.refusal c.unmet.result c.in-Err.ensures.sends c.unmet.ensures.refusal c.unmet.ensures.met
