-- Each slot was looked at, and the watch went on; or a look ended the wait.
use Rattle.std.proofs.Common.{[], arith}
use Rattle.std.proofs.lemmas.Result.{err_from_is_err_and}
use Rattle.outside_api.specs.Standings.{standing}
use Rattle.wait_run.proofs.Streaming.{reads_streams, watch_ended}
use Rattle.wait_run.proofs.wait.look_and_watch.Goals as goal

pub returns : goal.returns
returns g c = record {
  counted = c.watch.ensures.counted;
  watches = λ declared rows from talk faults way reads low. c.watch.ensures.watches declared rows from talk faults (c.in_ok-look_at_all.ensures declared rows from way) reads low;
}

pub returns-in_err-look_at_all : goal.returns-in_err-look_at_all
returns-in_err-look_at_all g c =
    let p = err_from_is_err_and c.from_residual.result c.from_residual.ensures.1 in
    rw (p.1, p.2) (record {
      counted = omega arith;
      watches = λ declared rows from talk faults way reads low.
          watch_ended declared rows from (standing (g.H.Hand.log c.look_at_all.new.hand) (g.H.Hand.engine c.look_at_all.new.hand) (g.H.Hand.heard c.look_at_all.new.hand) (g.H.Hand.faults c.look_at_all.new.hand) (g.H.Hand.clock c.look_at_all.new.hand))
          talk (g.P.Pipe.talk c.args.stream.now) faults (g.P.Pipe.faults c.args.stream.now) c.look_at_all.new.goals [] c.in_err-look_at_all.field-0.0 (reads_streams c.args.body.now [] talk (g.P.Pipe.talk c.args.stream.now) reads) (c.in_err-look_at_all.ensures declared rows from way);
    })
