-- What the search answers to the bytes that were read is where the head ends in them.
use Rattle.std.proofs.Common.{ℕ, Bool, List, [], refl, sym, ap, ◌∙◌, subst, arith}
use Rattle.std.proofs.lemmas.Result.{err_from_is_err_and}
use Rattle.std.specs.Prelude.{Err, Result}
use Rattle.http_heads.specs.Searches.{HasFollowed, searched_part}
use Rattle.http_heads.specs.declared.line_search.SearchAnswer.{SearchAnswer}
use Rattle.request_reading.specs.Hearing.{Hears}
use Rattle.request_reading.specs.Stocks.{FindsHeadBy, IsFilled}
use Rattle.request_reading.specs.declared.received.RequestEnd.{RequestEnd}
use Rattle.request_reading.proofs.Listening.{hears_nothing, not_filled}
use Rattle.request_reading.proofs.Searching.{followed_more, followed_on, found_here, lost_there, passed_here, read_more, reading_falls, small_left, told_head}
use Rattle.request_reading.proofs.heads.head_end.Goals as goal

pub reading-init : goal.reading-init
reading-init g c = record {
  counted = omega arith;
  heard = hears_nothing (g.P.Pipe.talk c.args.pipe.now) (λ (more : List ℕ) (found_end : Bool). IsFilled c.args.stock.now c.args.stock.now more found_end) (not_filled c.args.stock.now);
  leading = c.of_head-search.ensures.leading;
  followed = followed_more c.of_head-search.result [] c.args.stock.now.bytes c.of_head-search.ensures.followed;
}

pub returns-in-Ends-clause-finds : goal.returns-in-Ends-clause-finds
returns-in-Ends-clause-finds g c =
    found_here c.args.stock.now c.reading.stock c.reading.stock (g.P.Pipe.talk c.args.pipe.now) (g.P.Pipe.talk c.reading.pipe)
    (g.P.Pipe.faults c.args.pipe.now) (g.P.Pipe.faults c.reading.pipe) c.in-Ends.end c.reading.invariant.heard
    (told_head (SearchAnswer.Ends c.in-Ends.end) c.reading.search.leading c.reading.stock.bytes (c.in-Ends.ensures.exact ∙ ap (searched_part c.reading.search.leading 65536 101) c.as_slice.ensures) c.reading.invariant.leading)

pub returns-in-Passed-clause-finds : goal.returns-in-Passed-clause-finds
returns-in-Passed-clause-finds g c =
    passed_here c.args.stock.now c.reading.stock c.reading.stock (g.P.Pipe.talk c.args.pipe.now) (g.P.Pipe.talk c.reading.pipe)
    (g.P.Pipe.faults c.args.pipe.now) (g.P.Pipe.faults c.reading.pipe) c.reading.invariant.heard
    (told_head SearchAnswer.Passed c.reading.search.leading c.reading.stock.bytes (c.in-Passed.ensures.exact ∙ ap (searched_part c.reading.search.leading 65536 101) c.as_slice.ensures) c.reading.invariant.leading)

pub returns-in_err-read_on-in-Unfinished-clause-finds : goal.returns-in_err-read_on-in-Unfinished-clause-finds
returns-in_err-read_on-in-Unfinished-clause-finds g c =
    let p = err_from_is_err_and c.from_residual.result c.from_residual.ensures.1 in
    subst (λ (r : Result ℕ RequestEnd). Hears (g.P.Pipe.talk c.args.pipe.now) (g.P.Pipe.talk c.read_on.new.pipe)
    (FindsHeadBy c.args.stock.now c.read_on.new.self (g.P.Pipe.faults c.args.pipe.now) (g.P.Pipe.faults c.read_on.new.pipe) r))
    (sym (p.1 ∙ ap Err p.2))
    (lost_there c.args.stock.now c.reading.stock c.read_on.new.self (g.P.Pipe.talk c.args.pipe.now) (g.P.Pipe.talk c.reading.pipe)
    (g.P.Pipe.talk c.read_on.new.pipe) (g.P.Pipe.faults c.args.pipe.now) (g.P.Pipe.faults c.reading.pipe) (g.P.Pipe.faults c.read_on.new.pipe) _
    c.reading.invariant.counted c.read_on.ensures.counted c.reading.invariant.heard
    (told_head SearchAnswer.Unfinished c.reading.search.leading c.reading.stock.bytes (c.in-Unfinished.ensures.exact ∙ ap (searched_part c.reading.search.leading 65536 101) c.as_slice.ensures) c.reading.invariant.leading)
    c.in_err-read_on-in-Unfinished.ensures.reads)

pub reading-preserved : goal.reading-preserved
reading-preserved g c =
    let read = c.in_ok-read_on-in-Unfinished.ensures.reads in
    record {
      counted = omega (arith, c.reading.invariant.counted, c.read_on.ensures.counted);
      heard =
          read_more c.args.stock.now c.reading.stock c.read_on.new.self (g.P.Pipe.talk c.args.pipe.now) (g.P.Pipe.talk c.reading.pipe)
          (g.P.Pipe.talk c.read_on.new.pipe) (g.P.Pipe.faults c.reading.pipe) (g.P.Pipe.faults c.read_on.new.pipe) c.reading.invariant.heard read;
      leading = c.part.ensures.leading ∙ c.reading.invariant.leading;
      followed = followed_on c.part.new.self c.reading.stock c.read_on.new.self read.more read.found_end read.comes.0 (subst (HasFollowed c.part.new.self) c.as_slice.ensures (c.in-Unfinished.ensures.followed refl));
    }

pub reading-smaller : goal.reading-smaller
reading-smaller g c =
    let read = c.in_ok-read_on-in-Unfinished.ensures.reads in
    reading_falls c.reading.stock c.read_on.new.self read.more read.found_end 65537 read.comes.0 read.comes.1 read.comes.2
    (small_left c.reading.stock.bytes
    (told_head SearchAnswer.Unfinished c.reading.search.leading c.reading.stock.bytes (c.in-Unfinished.ensures.exact ∙ ap (searched_part c.reading.search.leading 65536 101) c.as_slice.ensures) c.reading.invariant.leading))
