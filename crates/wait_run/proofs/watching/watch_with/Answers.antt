-- A piece more is read, and its events are looked behind; or the watch ends.
use Rattle.std.proofs.Common.{◌∙◌, sym, arith}
use Rattle.std.proofs.lemmas.Result.{err_from_is_err_and}
use Rattle.outside_api.specs.Standings.{standing}
use Rattle.wait_run.proofs.Pieces.{watch_fed, watch_looked, watch_more, watch_over}
use Rattle.wait_run.proofs.Streaming.{watch_begun, watch_endless, watch_settled, watch_short}
use Rattle.wait_run.proofs.watching.watch_with.Goals as goal

pub reading-init : goal.reading-init
reading-init g c = record {
  counted = omega arith;
  watched = λ declared rows from talk faults way reads low has.
      watch_begun declared rows from _ talk _ c.args.body.now c.args.reader.now c.args.goals.now way reads has;
}

pub reading-preserved : goal.reading-preserved
reading-preserved g c = record {
  counted = omega (arith, c.reading.invariant.counted, c.feed.ensures.counted);
  watched = λ declared rows from talk faults way reads low has.
      let so_far = c.reading.invariant.watched declared rows from talk faults way reads low has in
      let feeds = c.in_ok-fed.ensures.feeds so_far.body so_far.taken talk faults so_far.reads (omega (arith, low, c.reading.invariant.counted)) so_far.after.has_read so_far.sound in
      let after = watch_fed declared rows from talk (g.P.Pipe.talk c.feed.new.stream) c.feed.new.body c.feed.new.reader faults (g.P.Pipe.faults c.feed.new.stream) so_far.body so_far.taken c.in_ok-fed.fed feeds (standing (g.H.Hand.log c.reading.hand) (g.H.Hand.engine c.reading.hand) (g.H.Hand.heard c.reading.hand) (g.H.Hand.faults c.reading.hand) (g.H.Hand.clock c.reading.hand)) c.reading.reader c.reading.goals so_far.after in
      watch_more declared rows from (standing (g.H.Hand.log c.look_at_events.new.hand) (g.H.Hand.engine c.look_at_events.new.hand) (g.H.Hand.heard c.look_at_events.new.hand) (g.H.Hand.faults c.look_at_events.new.hand) (g.H.Hand.clock c.look_at_events.new.hand)) talk (g.P.Pipe.talk c.feed.new.stream) c.feed.new.body c.feed.new.reader c.look_at_events.new.reader c.look_at_events.new.goals faults (g.P.Pipe.faults c.feed.new.stream) so_far.body so_far.taken c.reading._pieces so_far.far c.in_ok-fed.fed feeds c.in_default.is
      (c.in_ok-look_at_events.ensures declared rows _ so_far.taken from after);
}

pub returns-then-is_settled : goal.returns-then-is_settled
returns-then-is_settled g c = record {
  counted = c.reading.invariant.counted;
  watches = λ declared rows from talk faults way reads low has.
      let so_far = c.reading.invariant.watched declared rows from talk faults way reads low has in
      watch_settled declared rows from (standing (g.H.Hand.log c.reading.hand) (g.H.Hand.engine c.reading.hand) (g.H.Hand.heard c.reading.hand) (g.H.Hand.faults c.reading.hand) (g.H.Hand.clock c.reading.hand)) talk (g.P.Pipe.talk c.reading.stream) c.reading.body c.reading.reader c.reading.goals c.reading._pieces faults (g.P.Pipe.faults c.reading.stream) so_far (sym c.is_settled.ensures ∙ c.if-is_settled.true);
}

pub returns-in_err-fed : goal.returns-in_err-fed
returns-in_err-fed g c =
    let p = err_from_is_err_and c.from_residual.result c.from_residual.ensures.1 in
    rw (p.1, p.2) (record {
      counted = omega (arith, c.reading.invariant.counted, c.feed.ensures.counted);
      watches = λ declared rows from talk faults way reads low has.
          let so_far = c.reading.invariant.watched declared rows from talk faults way reads low has in
          let feeds = c.in_err-fed.ensures.feeds so_far.body so_far.taken talk faults so_far.reads (omega (arith, low, c.reading.invariant.counted)) so_far.after.has_read so_far.sound in
          watch_short declared rows from (standing (g.H.Hand.log c.reading.hand) (g.H.Hand.engine c.reading.hand) (g.H.Hand.heard c.reading.hand) (g.H.Hand.faults c.reading.hand) (g.H.Hand.clock c.reading.hand)) talk (g.P.Pipe.talk c.reading.stream) c.reading.body c.reading.reader c.reading.goals c.reading._pieces faults 0 so_far (g.P.Pipe.talk c.feed.new.stream) (g.P.Pipe.faults c.feed.new.stream) c.in_err-fed.field-0.0 feeds.1.0 feeds.0 feeds.1.1;
    })

pub returns-in_err-look_at_events : goal.returns-in_err-look_at_events
returns-in_err-look_at_events g c =
    let p = err_from_is_err_and c.from_residual-in_err-look_at_events.result c.from_residual-in_err-look_at_events.ensures.1 in
    rw (p.1, p.2) (record {
      counted = omega (arith, c.reading.invariant.counted, c.feed.ensures.counted);
      watches = λ declared rows from talk faults way reads low has.
          let so_far = c.reading.invariant.watched declared rows from talk faults way reads low has in
          let feeds = c.in_ok-fed.ensures.feeds so_far.body so_far.taken talk faults so_far.reads (omega (arith, low, c.reading.invariant.counted)) so_far.after.has_read so_far.sound in
          let after = watch_fed declared rows from talk (g.P.Pipe.talk c.feed.new.stream) c.feed.new.body c.feed.new.reader faults (g.P.Pipe.faults c.feed.new.stream) so_far.body so_far.taken c.in_ok-fed.fed feeds (standing (g.H.Hand.log c.reading.hand) (g.H.Hand.engine c.reading.hand) (g.H.Hand.heard c.reading.hand) (g.H.Hand.faults c.reading.hand) (g.H.Hand.clock c.reading.hand)) c.reading.reader c.reading.goals so_far.after in
          watch_looked declared rows from talk (g.P.Pipe.talk c.feed.new.stream) c.feed.new.body c.feed.new.reader faults (g.P.Pipe.faults c.feed.new.stream) so_far.body so_far.taken c.in_ok-fed.fed feeds (standing (g.H.Hand.log c.look_at_events.new.hand) (g.H.Hand.engine c.look_at_events.new.hand) (g.H.Hand.heard c.look_at_events.new.hand) (g.H.Hand.faults c.look_at_events.new.hand) (g.H.Hand.clock c.look_at_events.new.hand)) c.look_at_events.new.goals c.in_err-look_at_events.field-0.0
          (c.in_err-look_at_events.ensures declared rows _ so_far.taken from after);
    })

pub returns-in-Some : goal.returns-in-Some
returns-in-Some g c = rw c.over.ensures (record {
  counted = omega (arith, c.reading.invariant.counted, c.feed.ensures.counted);
  watches = λ declared rows from talk faults way reads low has.
      let so_far = c.reading.invariant.watched declared rows from talk faults way reads low has in
      let feeds = c.in_ok-fed.ensures.feeds so_far.body so_far.taken talk faults so_far.reads (omega (arith, low, c.reading.invariant.counted)) so_far.after.has_read so_far.sound in
      let after = watch_fed declared rows from talk (g.P.Pipe.talk c.feed.new.stream) c.feed.new.body c.feed.new.reader faults (g.P.Pipe.faults c.feed.new.stream) so_far.body so_far.taken c.in_ok-fed.fed feeds (standing (g.H.Hand.log c.reading.hand) (g.H.Hand.engine c.reading.hand) (g.H.Hand.heard c.reading.hand) (g.H.Hand.faults c.reading.hand) (g.H.Hand.clock c.reading.hand)) c.reading.reader c.reading.goals so_far.after in
      watch_over declared rows from (standing (g.H.Hand.log c.look_at_events.new.hand) (g.H.Hand.engine c.look_at_events.new.hand) (g.H.Hand.heard c.look_at_events.new.hand) (g.H.Hand.faults c.look_at_events.new.hand) (g.H.Hand.clock c.look_at_events.new.hand)) talk (g.P.Pipe.talk c.feed.new.stream) c.feed.new.body c.feed.new.reader c.look_at_events.new.reader c.look_at_events.new.goals faults (g.P.Pipe.faults c.feed.new.stream) so_far.body so_far.taken c.in_ok-fed.fed feeds c.in-Some.fault c.in-Some.is
      (c.in_ok-look_at_events.ensures declared rows _ so_far.taken from after) c.is_settled-in-Some.result c.is_settled-in-Some.ensures;
})

pub returns : goal.returns
returns g c = record {
  counted = c.reading.invariant.counted;
  watches = λ declared rows from talk faults way reads low has.
      let so_far = c.reading.invariant.watched declared rows from talk faults way reads low has in
      absurd (watch_endless declared rows from (standing (g.H.Hand.log c.reading.hand) (g.H.Hand.engine c.reading.hand) (g.H.Hand.heard c.reading.hand) (g.H.Hand.faults c.reading.hand) (g.H.Hand.clock c.reading.hand)) talk (g.P.Pipe.talk c.reading.stream) c.reading.body c.reading.reader c.reading.goals c.reading._pieces faults 0 so_far (omega arith));
}
