-- Each piece is put behind the others, until the body is whole.
use Rattle.std.proofs.Common.{◌≡◌, true, false, rules, ◌<◌, ◌++◌, ◌||◌, ℕ, Bool, List, length, sym, ap, ◌∙◌, subst, arith}
use Rattle.std.proofs.lemmas.Result.{err_from_is_err_and}
use Rattle.std.specs.Prelude.{Err, Result}
use Rattle.tree_base.specs.Limits.{most_body_bytes}
use Rattle.http_response.specs.Bodies.{IsOpen, ReadsRestBy}
use Rattle.http_response.specs.Hearing.{Hears}
use Rattle.http_response.specs.declared.response.ResponseEnd.{ResponseEnd}
use Rattle.http_response.proofs.Resting.{no_more, none_there, nothing_put, one_more, put_within}
use Rattle.http_response.proofs.body.read_rest.Goals as goal

pub reading-init : goal.reading-init
reading-init g c = record {
  counted = omega arith;
  heard = λ (read : List ℕ) (ended : Bool) (o : IsOpen c.args.response.now read ended c.args.body.now). nothing_put c.args.response.now c.args.body.now read ended (g.P.Pipe.talk c.args.pipe.now) o;
}

pub reading-preserved : goal.reading-preserved
reading-preserved g c = record {
  counted = omega (arith, c.reading.invariant.counted, c.more.ensures.counted);
  heard = λ (read : List ℕ) (ended : Bool) (o : IsOpen c.args.response.now read ended c.args.body.now).
      let going : c.in_ok-more.field-0 ≡ true = first_of (cc, search rules) in
      let first = c.reading.invariant.heard read ended o in
      (one_more c.reading.response c.more.new.self c.reading.body c.more.new.to read ended (g.P.Pipe.talk c.args.pipe.now) (g.P.Pipe.talk c.reading.pipe) (g.P.Pipe.talk c.more.new.pipe)
      (g.P.Pipe.faults c.args.pipe.now) (g.P.Pipe.faults c.reading.pipe) (g.P.Pipe.faults c.more.new.pipe) first c.in_ok-more.field-0 going
      (c.in_ok-more.ensures.continues most_body_bytes (read ++ first.more) (ended || first.found_end) c.reading.body first.comes)).0;
}

pub reading-smaller : goal.reading-smaller
reading-smaller g c =
    let going : c.in_ok-more.field-0 ≡ true = first_of (cc, search rules) in
    let read = c.requires.begun.0 in
    let ended = c.requires.begun.1 in
    let first = c.reading.invariant.heard read ended c.requires.begun.2 in
    let grown : length c.reading.body < length c.more.new.to =
    (one_more c.reading.response c.more.new.self c.reading.body c.more.new.to read ended (g.P.Pipe.talk c.args.pipe.now) (g.P.Pipe.talk c.reading.pipe) (g.P.Pipe.talk c.more.new.pipe)
    (g.P.Pipe.faults c.args.pipe.now) (g.P.Pipe.faults c.reading.pipe) (g.P.Pipe.faults c.more.new.pipe) first c.in_ok-more.field-0 going
    (c.in_ok-more.ensures.continues most_body_bytes (read ++ first.more) (ended || first.found_end) c.reading.body first.comes)).1 in
    let small = put_within c.reading.response c.reading.body read ended (g.P.Pipe.talk c.args.pipe.now) (g.P.Pipe.talk c.reading.pipe) first in
    omega (arith, grown, small)

pub returns-in_err-more-clause-reads : goal.returns-in_err-more-clause-reads
returns-in_err-more-clause-reads g c = λ (read : List ℕ) (ended : Bool) (o : IsOpen c.args.response.now read ended c.args.body.now).
    let p = err_from_is_err_and c.from_residual.result c.from_residual.ensures.1 in
    let first = c.reading.invariant.heard read ended o in
    subst (λ (r : Result (Unit {0}) ResponseEnd). Hears (g.P.Pipe.talk c.args.pipe.now) (g.P.Pipe.talk c.more.new.pipe)
    (ReadsRestBy read ended c.more.new.self c.more.new.to (g.P.Pipe.faults c.args.pipe.now) (g.P.Pipe.faults c.more.new.pipe) r))
    (sym (p.1 ∙ ap Err p.2))
    (none_there c.reading.response c.more.new.self c.reading.body c.more.new.to read ended (g.P.Pipe.talk c.args.pipe.now) (g.P.Pipe.talk c.reading.pipe) (g.P.Pipe.talk c.more.new.pipe)
    (g.P.Pipe.faults c.args.pipe.now) (g.P.Pipe.faults c.reading.pipe) (g.P.Pipe.faults c.more.new.pipe) first _
    c.reading.invariant.counted c.more.ensures.counted
    (c.in_err-more.ensures.continues most_body_bytes (read ++ first.more) (ended || first.found_end) c.reading.body first.comes))

pub returns-clause-reads : goal.returns-clause-reads
returns-clause-reads g c = λ (read : List ℕ) (ended : Bool) (o : IsOpen c.args.response.now read ended c.args.body.now).
    let over : c.in_ok-more.field-0 ≡ false = first_of (cc, search rules) in
    let first = c.reading.invariant.heard read ended o in
    no_more c.reading.response c.more.new.self c.reading.body c.more.new.to read ended (g.P.Pipe.talk c.args.pipe.now) (g.P.Pipe.talk c.reading.pipe) (g.P.Pipe.talk c.more.new.pipe)
    (g.P.Pipe.faults c.args.pipe.now) (g.P.Pipe.faults c.reading.pipe) (g.P.Pipe.faults c.more.new.pipe) first c.in_ok-more.field-0 over
    (c.in_ok-more.ensures.continues most_body_bytes (read ++ first.more) (ended || first.found_end) c.reading.body first.comes)
