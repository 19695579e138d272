-- Pieces are read until there are so many bytes.
use Rattle.std.proofs.Common.{ℕ, ◌<◌, ◌≤◌, Bool, List, sym, ap, ◌∙◌, subst, arith}
use Rattle.std.proofs.lemmas.Result.{err_from_is_err_and}
use Rattle.std.specs.Prelude.{Err, Result}
use Rattle.request_reading.specs.Hearing.{Hears}
use Rattle.request_reading.specs.Stocks.{FillsToBy, IsFilled}
use Rattle.request_reading.specs.declared.received.RequestEnd.{RequestEnd}
use Rattle.request_reading.proofs.Listening.{hears_nothing, not_filled}
use Rattle.request_reading.proofs.Bodies.{fill_done, fill_lost}
use Rattle.request_reading.proofs.Searching.{read_more, reading_falls}
use Rattle.request_reading.proofs.stock.Stock.fill_to.Goals as goal

pub filling-init : goal.filling-init
filling-init g c = record {
  counted = omega arith;
  heard = hears_nothing (g.P.Pipe.talk c.args.pipe.now) (λ (more : List ℕ) (found_end : Bool). IsFilled c.args.self.now c.args.self.now more found_end) (not_filled c.args.self.now);
}

pub filling-preserved : goal.filling-preserved
filling-preserved g c = record {
  counted = omega (arith, c.filling.invariant.counted, c.read_on.ensures.counted);
  heard =
      read_more c.args.self.now c.filling.self c.read_on.new.self (g.P.Pipe.talk c.args.pipe.now) (g.P.Pipe.talk c.filling.pipe)
      (g.P.Pipe.talk c.read_on.new.pipe) (g.P.Pipe.faults c.filling.pipe) (g.P.Pipe.faults c.read_on.new.pipe) c.filling.invariant.heard c.in_ok-read_on.ensures.reads;
}

pub filling-smaller : goal.filling-smaller
filling-smaller g c =
    let read = c.in_ok-read_on.ensures.reads in
    reading_falls c.filling.self c.read_on.new.self read.more read.found_end c.args.end read.comes.0 read.comes.1 read.comes.2
    (subst (λ (n : ℕ). n < c.args.end) c.len.ensures c.filling-test.true)

pub returns-in_err-read_on-clause-fills : goal.returns-in_err-read_on-clause-fills
returns-in_err-read_on-clause-fills g c =
    let p = err_from_is_err_and c.from_residual.result c.from_residual.ensures.1 in
    subst (λ (r : Result (Unit {0}) RequestEnd). Hears (g.P.Pipe.talk c.args.pipe.now) (g.P.Pipe.talk c.read_on.new.pipe)
    (FillsToBy c.args.end c.args.self.now c.read_on.new.self (g.P.Pipe.faults c.args.pipe.now) (g.P.Pipe.faults c.read_on.new.pipe) r))
    (sym (p.1 ∙ ap Err p.2))
    (fill_lost c.args.end c.args.self.now c.filling.self c.read_on.new.self (g.P.Pipe.talk c.args.pipe.now) (g.P.Pipe.talk c.filling.pipe)
    (g.P.Pipe.talk c.read_on.new.pipe) (g.P.Pipe.faults c.args.pipe.now) (g.P.Pipe.faults c.filling.pipe) (g.P.Pipe.faults c.read_on.new.pipe) _
    c.filling.invariant.counted c.read_on.ensures.counted c.filling.invariant.heard
    (subst (λ (n : ℕ). n < c.args.end) c.len.ensures c.filling-test.true) c.in_err-read_on.ensures.reads)

pub returns-clause-fills : goal.returns-clause-fills
returns-clause-fills g c =
    fill_done c.args.end c.args.self.now c.filling.self c.filling.self (g.P.Pipe.talk c.args.pipe.now) (g.P.Pipe.talk c.filling.pipe)
    (g.P.Pipe.faults c.args.pipe.now) (g.P.Pipe.faults c.filling.pipe) c.filling.invariant.heard
    (subst (λ (n : ℕ). c.args.end ≤ n) c.len.ensures c.filling-test.false)
