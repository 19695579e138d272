-- Each head that another follows is skipped, and the first that none follows is the response's.
use Rattle.std.proofs.Common.{ℕ, ◌++◌, ◌||◌, Bool, List, sym, ap, ◌∙◌, subst, arith}
use Rattle.std.proofs.lemmas.Result.{err_from_is_err_and}
use Rattle.std.specs.Prelude.{Err, Result}
use Rattle.http_response.specs.Found.{ReadHeadBy}
use Rattle.http_response.specs.Hearing.{Hears}
use Rattle.http_response.specs.Stocks.{IsFilled}
use Rattle.http_response.specs.declared.heads.Head.{Head}
use Rattle.http_response.specs.declared.response.ResponseEnd.{ResponseEnd}
use Rattle.http_response.proofs.Listening.{filled_on, heard_on, hears_nothing, not_filled}
use Rattle.http_response.proofs.Skipping.{further, heads_read, limited, read_lost, skipping_nothing, skipping_on, skipping_within, whole_within}
use Rattle.http_response.proofs.heads.read_head.Goals as goal

pub heads-init : goal.heads-init
heads-init g c = record {
  counted = omega arith;
  heard = hears_nothing (g.P.Pipe.talk c.args.pipe.now) (λ (more : List ℕ) (found_end : Bool). IsFilled c.args.stock.now c.args.stock.now more found_end) (not_filled c.args.stock.now);
  skipping = skipping_nothing c.args.limit c.args.stock.now;
}

pub next_head-requires : goal.next_head-requires
next_head-requires g c =
    let s = skipping_within c.args.limit c.heads.stock c.heads.skipped c.heads.invariant.skipping in
    record { within = s.0; small = s.1; small_limit = c.requires.small }

pub overflow_add-skipped : goal.overflow_add-skipped
overflow_add-skipped g c =
    let read = c.in_ok-head.ensures.reads in
    let l = limited c.args.limit c.heads.stock c.next_head.new.stock c.heads.skipped read.more read.found_end c.in_ok-head.head c.heads.invariant.skipping read.comes.0 read.comes.1 in
    omega (arith, l)

pub use_up-requires : goal.use_up-requires
use_up-requires g c =
    let read = c.in_ok-head.ensures.reads in
    whole_within c.args.limit c.heads.stock c.next_head.new.stock c.heads.skipped read.more read.found_end c.in_ok-head.head c.heads.invariant.skipping read.comes.0 read.comes.1

pub returns-in_err-head-clause-reads : goal.returns-in_err-head-clause-reads
returns-in_err-head-clause-reads g c =
    let p = err_from_is_err_and c.from_residual.result c.from_residual.ensures.1 in
    subst (λ (r : Result Head ResponseEnd). Hears (g.P.Pipe.talk c.args.pipe.now) (g.P.Pipe.talk c.next_head.new.pipe)
    (ReadHeadBy c.args.limit c.args.stock.now c.next_head.new.stock (g.P.Pipe.faults c.args.pipe.now) (g.P.Pipe.faults c.next_head.new.pipe) r))
    (sym (p.1 ∙ ap Err p.2))
    (read_lost c.args.limit c.args.stock.now c.heads.stock c.next_head.new.stock c.next_head.new.stock c.heads.skipped (g.P.Pipe.talk c.args.pipe.now) (g.P.Pipe.talk c.heads.pipe)
    (g.P.Pipe.talk c.next_head.new.pipe) (g.P.Pipe.faults c.args.pipe.now) (g.P.Pipe.faults c.heads.pipe) (g.P.Pipe.faults c.next_head.new.pipe) _
    c.heads.invariant.counted c.next_head.ensures.counted c.heads.invariant.heard c.heads.invariant.skipping c.in_err-head.ensures.reads)

pub returns-then-not-is_interim-clause-reads : goal.returns-then-not-is_interim-clause-reads
returns-then-not-is_interim-clause-reads g c =
    heads_read c.args.limit c.args.stock.now c.heads.stock c.next_head.new.stock c.use_up.new.self c.heads.skipped c.in_ok-head.head (g.P.Pipe.talk c.args.pipe.now) (g.P.Pipe.talk c.heads.pipe)
    (g.P.Pipe.talk c.next_head.new.pipe) (g.P.Pipe.faults c.args.pipe.now) (g.P.Pipe.faults c.heads.pipe) (g.P.Pipe.faults c.next_head.new.pipe)
    c.heads.invariant.heard c.heads.invariant.skipping c.in_ok-head.ensures.reads (sym c.is_interim.ensures ∙ c.if-not-is_interim.true)
    c.use_up.ensures.left c.use_up.ensures.place c.use_up.ensures.ended

pub heads-preserved : goal.heads-preserved
heads-preserved g c =
    let first = c.heads.invariant.heard in
    let read = c.in_ok-head.ensures.reads in
    record {
      counted = omega (arith, c.heads.invariant.counted, c.next_head.ensures.counted);
      heard = record {
        more = first.more ++ read.more;
        found_end = first.found_end || read.found_end;
        heard = heard_on first.more read.more first.found_end read.found_end (g.P.Pipe.talk c.args.pipe.now) (g.P.Pipe.talk c.heads.pipe) (g.P.Pipe.talk c.next_head.new.pipe) first.heard read.heard;
        comes = filled_on c.args.stock.now c.heads.stock c.next_head.new.stock first.more read.more first.found_end read.found_end first.comes read.comes.0;
      };
      skipping =
          skipping_on c.args.limit c.heads.stock c.next_head.new.stock c.heads.skipped read.more read.found_end c.in_ok-head.head c.heads.invariant.skipping read.comes.0 read.comes.1
          (sym c.is_interim.ensures ∙ c.if-not-is_interim.false);
    }

pub heads-smaller : goal.heads-smaller
heads-smaller g c =
    let read = c.in_ok-head.ensures.reads in
    let l = limited c.args.limit c.heads.stock c.next_head.new.stock c.heads.skipped read.more read.found_end c.in_ok-head.head c.heads.invariant.skipping read.comes.0 read.comes.1 in
    let f = further c.args.limit c.heads.stock c.next_head.new.stock c.heads.skipped read.more read.found_end c.in_ok-head.head c.heads.invariant.skipping read.comes.0 read.comes.1 in
    omega (arith, l, f)
