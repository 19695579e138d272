-- The stream was opened, or its head ended the wait.
use Rattle.std.proofs.Common.{arith}
use Rattle.outside_api.specs.Standings.{standing}
use Rattle.wait_run.proofs.Ending.{unopened_so}
use Rattle.wait_run.proofs.Opening.{opened_reads}
use Rattle.wait_run.proofs.wait.wait_asked.Goals as goal

pub returns-in-Ok : goal.returns-in-Ok
returns-in-Ok g c = record {
  counted = omega (arith, c.open.ensures.counted, c.wait_open.ensures.counted);
  ends = λ faults low.
      c.wait_open.ensures.ends (g.P.Pipe.talk c.args.stream.now) faults (opened_reads (g.P.Pipe.talk c.args.stream.now) (g.P.Pipe.talk c.open.new.stream) (g.P.Pipe.faults c.args.stream.now) (g.P.Pipe.faults c.open.new.stream) c.in-Ok.body c.in-Ok.ensures.opens)
      (omega (arith, low, c.open.ensures.counted));
}

pub returns-in-Err : goal.returns-in-Err
returns-in-Err g c = record {
  counted = c.open.ensures.counted;
  ends = λ faults low.
      unopened_so c.args.declared.now (standing (g.H.Hand.log c.args.hand.now) (g.H.Hand.engine c.args.hand.now) (g.H.Hand.heard c.args.hand.now) (g.H.Hand.faults c.args.hand.now) (g.H.Hand.clock c.args.hand.now))
      (g.P.Pipe.talk c.args.stream.now) (g.P.Pipe.talk c.open.new.stream) faults (g.P.Pipe.faults c.args.stream.now) (g.P.Pipe.faults c.open.new.stream) c.in-Err.refusal c.unmet.result low c.open.ensures.counted c.in-Err.ensures.opens c.unmet.ensures.refusal c.unmet.ensures.met;
}
