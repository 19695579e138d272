-- A piece stands behind what was left, and the end leaves it.
use Rattle.std.proofs.Common.{◌≡◌, ◌<◌, ℕ, [], true, false, length, take, sym, ap, ◌∙◌, subst, arith, true≢false}
use Rattle.std.proofs.lemmas.Bool.{ne_eqb}
use Rattle.std.proofs.lemmas.List.{append-nil}
use Rattle.outside_api.specs.Pipes.{ToldBy, after_read}
use Rattle.outside_api.specs.declared.pipe.PipeAnswer.{PipeAnswer}
use Rattle.http_response.specs.Stocks.{left}
use Rattle.http_response.proofs.Listening.{end_heard, fills_failed, fills_lost, fills_nothing, filled_left, or_nothing, or_true, piece_heard, positive}
use Rattle.http_response.proofs.stock.Stock.fill.Goals as goal

pub returns-in-Got-eq0-clause-fills : goal.returns-in-Got-eq0-clause-fills
returns-in-Got-eq0-clause-fills g c =
    let none : c.in-Got-eq0.field-0 ≡ 0 = omega arith in
    let told : ToldBy (after_read c.read.new.room (PipeAnswer.Got 0)) (g.P.Pipe.talk c.args.pipe.now) (g.P.Pipe.talk c.read.new.self) =
    subst (λ (n : ℕ). ToldBy (after_read c.read.new.room (PipeAnswer.Got n)) (g.P.Pipe.talk c.args.pipe.now) (g.P.Pipe.talk c.read.new.self))
    none c.in-Got-eq0.ensures.told in
    record {
      more = [];
      found_end = true;
      heard = end_heard c.read.new.room (g.P.Pipe.talk c.args.pipe.now) (g.P.Pipe.talk c.read.new.self) told;
      comes = (
        record {
          left_is = c.in-Ok.ensures.left ∙ sym (append-nil (left c.args.self.now));
          ended_is = or_true c.args.self.now.ended;
          place_is = c.in-Ok.ensures.place;
        },
        λ (e : true ≡ false). absurd (true≢false e),
      );
    }

pub returns-in-Ok-extend_from_slice-clause-fills : goal.returns-in-Ok-extend_from_slice-clause-fills
returns-in-Ok-extend_from_slice-clause-fills g c =
    let some : 0 < length (take c.in-Got.count c.read.new.room) =
    subst (λ (n : ℕ). 0 < n) (sym c.split_at.ensures.front_len ∙ ap length c.split_at.ensures.front) (positive c.in-Got.count (ne_eqb c.in-Got.count 0 c.in-Got.count-test.1)) in
    record {
      more = take c.in-Got.count c.read.new.room;
      found_end = false;
      heard = piece_heard c.read.new.room c.in-Got.count (g.P.Pipe.talk c.args.pipe.now) (g.P.Pipe.talk c.read.new.self) (ne_eqb c.in-Got.count 0 c.in-Got.count-test.1) c.in-Got.ensures.told;
      comes = (
        record {
          left_is =
              filled_left c.shed.new.self.used c.shed.new.self.bytes c.extend_from_slice.new.self _ (left c.args.self.now) (take c.in-Got.count c.read.new.room)
              c.in-Ok.ensures.none_used c.in-Ok-extend_from_slice.ensures.ok c.split_at.ensures.front c.in-Ok.ensures.left;
          ended_is = c.in-Ok.ensures.ended ∙ or_nothing c.args.self.now.ended;
          place_is = c.in-Ok.ensures.place;
        },
        λ (e : false ≡ false). some,
      );
    }

pub returns-in-Err-clause-fills : goal.returns-in-Err-clause-fills
returns-in-Err-clause-fills g c = fills_lost c.args.self.now c.args.self.now c.read.new.room c.in-Got.count (g.P.Pipe.talk c.args.pipe.now) (g.P.Pipe.talk c.read.new.self) (g.P.Pipe.faults c.args.pipe.now) (g.P.Pipe.faults c.read.new.self) (ne_eqb c.in-Got.count 0 c.in-Got.count-test.1) c.in-Got.ensures.told

pub returns-in-Failed-clause-fills : goal.returns-in-Failed-clause-fills
returns-in-Failed-clause-fills g c = fills_failed c.args.self.now c.args.self.now c.read.new.room (g.P.Pipe.talk c.args.pipe.now) (g.P.Pipe.talk c.read.new.self) (g.P.Pipe.faults c.args.pipe.now) (g.P.Pipe.faults c.read.new.self) c.in-Failed.ensures.answer c.in-Failed.ensures.told

pub returns-in_default-clause-fills : goal.returns-in_default-clause-fills
returns-in_default-clause-fills g c = fills_nothing c.args.self.now c.args.self.now (g.P.Pipe.talk c.args.pipe.now) (g.P.Pipe.faults c.args.pipe.now)
