-- What the search answers to the bytes that were read is where the head ends in them.
use Rattle.std.proofs.Common.{ℕ, Bool, List, [], drop, refl, sym, ap, ◌∙◌, subst, arith}
use Rattle.std.proofs.lemmas.Result.{err_from_is_err_and}
use Rattle.std.specs.Prelude.{Err, Result}
use Rattle.http_heads.specs.declared.line_search.SearchAnswer.{SearchAnswer}
use Rattle.http_response.specs.Hearing.{Hears}
use Rattle.http_response.specs.Stocks.{FindsEndBy, IsFilled, left}
use Rattle.http_response.specs.declared.response.ResponseEnd.{ResponseEnd}
use Rattle.http_response.proofs.Listening.{hears_nothing, not_filled}
use Rattle.http_response.proofs.Searching.{followed_more, followed_on, found_here, longer, lost_there, passed_here, read_more, reading_falls, small_left, told_head}
use Rattle.http_response.proofs.Skipping.{head_at}
use Rattle.http_response.proofs.heads.head_end.Goals as goal

pub reading-init : goal.reading-init
reading-init g c = record {
  counted = omega arith;
  heard = hears_nothing (g.P.Pipe.talk c.args.pipe.now) (λ (more : List ℕ) (found_end : Bool). IsFilled c.args.stock.now c.args.stock.now more found_end) (not_filled c.args.stock.now);
  within = c.requires.within;
  leading = c.of_head-search.ensures.leading;
  followed = followed_more c.of_head-search.result [] (drop c.args.skipped (left c.args.stock.now)) c.of_head-search.ensures.followed;
}

pub returns-in-Ends-clause-finds : goal.returns-in-Ends-clause-finds
returns-in-Ends-clause-finds g c =
    found_here (head_at c.args.skipped) c.args.stock.now c.reading.stock c.reading.stock (g.P.Pipe.talk c.args.pipe.now) (g.P.Pipe.talk c.reading.pipe)
    (g.P.Pipe.faults c.args.pipe.now) (g.P.Pipe.faults c.reading.pipe) c.in-Ends.end c.reading.invariant.heard
    (told_head (SearchAnswer.Ends c.in-Ends.end) c.reading.search.leading c.args.skipped c.split_at.result.1.now (left c.reading.stock) c.in-Ends.ensures.exact
    c.reading.invariant.leading (c.split_at.ensures.back ∙ ap (drop c.args.skipped) c.left.ensures))

pub returns-in-Passed-clause-finds : goal.returns-in-Passed-clause-finds
returns-in-Passed-clause-finds g c =
    passed_here (head_at c.args.skipped) c.args.stock.now c.reading.stock c.reading.stock (g.P.Pipe.talk c.args.pipe.now) (g.P.Pipe.talk c.reading.pipe)
    (g.P.Pipe.faults c.args.pipe.now) (g.P.Pipe.faults c.reading.pipe) c.reading.invariant.heard
    (told_head SearchAnswer.Passed c.reading.search.leading c.args.skipped c.split_at.result.1.now (left c.reading.stock) c.in-Passed.ensures.exact
    c.reading.invariant.leading (c.split_at.ensures.back ∙ ap (drop c.args.skipped) c.left.ensures))

pub returns-in_err-read_on-in-Unfinished-clause-finds : goal.returns-in_err-read_on-in-Unfinished-clause-finds
returns-in_err-read_on-in-Unfinished-clause-finds g c =
    let p = err_from_is_err_and c.from_residual.result c.from_residual.ensures.1 in
    subst (λ (r : Result ℕ ResponseEnd). Hears (g.P.Pipe.talk c.args.pipe.now) (g.P.Pipe.talk c.read_on.new.pipe)
    (FindsEndBy (head_at c.args.skipped) c.args.stock.now c.read_on.new.self (g.P.Pipe.faults c.args.pipe.now) (g.P.Pipe.faults c.read_on.new.pipe) r))
    (sym (p.1 ∙ ap Err p.2))
    (lost_there (head_at c.args.skipped) c.args.stock.now c.reading.stock c.read_on.new.self (g.P.Pipe.talk c.args.pipe.now) (g.P.Pipe.talk c.reading.pipe)
    (g.P.Pipe.talk c.read_on.new.pipe) (g.P.Pipe.faults c.args.pipe.now) (g.P.Pipe.faults c.reading.pipe) (g.P.Pipe.faults c.read_on.new.pipe) _
    c.reading.invariant.counted c.read_on.ensures.counted c.reading.invariant.heard
    (told_head SearchAnswer.Unfinished c.reading.search.leading c.args.skipped c.split_at.result.1.now (left c.reading.stock) c.in-Unfinished.ensures.exact
    c.reading.invariant.leading (c.split_at.ensures.back ∙ ap (drop c.args.skipped) c.left.ensures))
    c.in_err-read_on-in-Unfinished.ensures.reads)

pub reading-preserved : goal.reading-preserved
reading-preserved g c =
    let read = c.in_ok-read_on-in-Unfinished.ensures.reads in
    let bytes = c.split_at.ensures.back ∙ ap (drop c.args.skipped) c.left.ensures in
    record {
      counted = omega (arith, c.reading.invariant.counted, c.read_on.ensures.counted);
      heard =
          read_more (head_at c.args.skipped) c.args.stock.now c.reading.stock c.read_on.new.self (g.P.Pipe.talk c.args.pipe.now) (g.P.Pipe.talk c.reading.pipe)
          (g.P.Pipe.talk c.read_on.new.pipe) (g.P.Pipe.faults c.reading.pipe) (g.P.Pipe.faults c.read_on.new.pipe) c.reading.invariant.heard read;
      within = let l = longer c.reading.stock c.read_on.new.self read.more read.found_end read.comes.0 in omega (arith, l, c.reading.invariant.within);
      leading = c.part.ensures.leading ∙ c.reading.invariant.leading;
      followed =
          followed_on c.part.new.self c.args.skipped c.reading.stock c.read_on.new.self c.split_at.result.1.now read.more read.found_end c.reading.invariant.within
          bytes read.comes.0 (c.in-Unfinished.ensures.followed refl);
    }

pub reading-smaller : goal.reading-smaller
reading-smaller g c =
    let read = c.in_ok-read_on-in-Unfinished.ensures.reads in
    reading_falls c.reading.stock c.read_on.new.self read.more read.found_end 65536 read.comes.0 read.comes.1 read.comes.2
    (small_left c.args.skipped (left c.reading.stock) c.reading.invariant.within c.requires.small
    (told_head SearchAnswer.Unfinished c.reading.search.leading c.args.skipped c.split_at.result.1.now (left c.reading.stock) c.in-Unfinished.ensures.exact
    c.reading.invariant.leading (c.split_at.ensures.back ∙ ap (drop c.args.skipped) c.left.ensures)))
