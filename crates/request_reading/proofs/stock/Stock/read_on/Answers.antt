-- A piece stands behind what was read, and the end leaves it.
use Rattle.std.proofs.Common.{◌≡◌, ◌<◌, ◌++◌, ℕ, List, [], true, false, length, take, refl, sym, ap, ◌∙◌, subst, arith, true≢false}
use Rattle.std.proofs.lemmas.Bool.{ne_eqb}
use Rattle.std.proofs.lemmas.List.{append-nil}
use Rattle.std.specs.Prelude.{Err}
use Rattle.engine_types.specs.declared.WireEnd.{WireEnd}
use Rattle.outside_api.specs.Pipes.{ToldBy, after_read}
use Rattle.outside_api.specs.declared.pipe.PipeAnswer.{PipeAnswer}
use Rattle.request_reading.specs.Stocks.{ReadsOnBy}
use Rattle.request_reading.specs.declared.received.RequestEnd.{RequestEnd}
use Rattle.request_reading.proofs.Listening.{end_heard, failure_heard, hears_nothing, or_nothing, or_true, piece_heard, positive}
use Rattle.request_reading.proofs.stock.Stock.read_on.Goals as goal

pub returns-then-self-clause-reads : goal.returns-then-self-clause-reads
returns-then-self-clause-reads g c =
    hears_nothing (g.P.Pipe.talk c.args.pipe.now)
    (ReadsOnBy c.args.self.now c.args.self.now (g.P.Pipe.faults c.args.pipe.now) (g.P.Pipe.faults c.args.pipe.now) (Err (RequestEnd.Wire WireEnd.Ended)))
    (refl, c.if-self.true, refl, refl)

pub returns-in-Got-eq0-clause-reads : goal.returns-in-Got-eq0-clause-reads
returns-in-Got-eq0-clause-reads g c =
    let none : c.in-Got-eq0.field-0 ≡ 0 = omega arith in
    let told : ToldBy (after_read c.read.new.room (PipeAnswer.Got 0)) (g.P.Pipe.talk c.args.pipe.now) (g.P.Pipe.talk c.read.new.self) =
    subst (λ (n : ℕ). ToldBy (after_read c.read.new.room (PipeAnswer.Got n)) (g.P.Pipe.talk c.args.pipe.now) (g.P.Pipe.talk c.read.new.self))
    none c.in-Got-eq0.ensures.told in
    record {
      more = [];
      found_end = true;
      heard = end_heard c.read.new.room (g.P.Pipe.talk c.args.pipe.now) (g.P.Pipe.talk c.read.new.self) told;
      comes = (
        record { bytes_are = sym (append-nil c.args.self.now.bytes); ended_is = or_true c.args.self.now.ended },
        c.if-self.false,
        λ (e : true ≡ false). absurd (true≢false e),
      );
    }

pub returns-in-Ok-clause-reads : goal.returns-in-Ok-clause-reads
returns-in-Ok-clause-reads g c =
    let some : 0 < length (take c.in-Got.count c.read.new.room) =
    subst (λ (n : ℕ). 0 < n) (sym c.split_at.ensures.front_len ∙ ap length c.split_at.ensures.front) (positive c.in-Got.count (ne_eqb c.in-Got.count 0 c.in-Got.count-test.1)) in
    record {
      more = take c.in-Got.count c.read.new.room;
      found_end = false;
      heard = piece_heard c.read.new.room c.in-Got.count (g.P.Pipe.talk c.args.pipe.now) (g.P.Pipe.talk c.read.new.self) (ne_eqb c.in-Got.count 0 c.in-Got.count-test.1) c.in-Got.ensures.told;
      comes = (
        record {
          bytes_are = c.in-Ok.ensures.ok ∙ ap (λ (b : List ℕ). c.args.self.now.bytes ++ b) c.split_at.ensures.front;
          ended_is = or_nothing c.args.self.now.ended;
        },
        c.if-self.false,
        λ (e : false ≡ false). some,
      );
    }

pub returns-in-Err-clause-reads : goal.returns-in-Err-clause-reads
returns-in-Err-clause-reads g c = record {
  more = take c.in-Got.count c.read.new.room;
  found_end = false;
  heard = piece_heard c.read.new.room c.in-Got.count (g.P.Pipe.talk c.args.pipe.now) (g.P.Pipe.talk c.read.new.self) (ne_eqb c.in-Got.count 0 c.in-Got.count-test.1) c.in-Got.ensures.told;
  comes = tt;
}

pub returns-in-Failed-clause-reads : goal.returns-in-Failed-clause-reads
returns-in-Failed-clause-reads g c = record {
  more = [];
  found_end = false;
  heard = failure_heard c.read.new.room (g.P.Pipe.talk c.args.pipe.now) (g.P.Pipe.talk c.read.new.self) c.in-Failed.ensures.told;
  comes = c.in-Failed.ensures.answer;
}
