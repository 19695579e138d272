-- The parser's answer to the lines that were found is that they are header lines, or that they are none.
use Rattle.std.proofs.Common.{◌≡◌, length, sym, ap, ◌∙◌, subst, arith, rules}
use Rattle.std.proofs.lemmas.Result.{err_from_is_err_and}
use Rattle.std.specs.Prelude.{Err, Result}
use Rattle.httparse.specs.declared.Error.{Error}
use Rattle.http_response.specs.ChunksRead.{ReadsTrailerBy}
use Rattle.http_response.specs.Hearing.{Hears}
use Rattle.http_response.specs.declared.response.ResponseEnd.{ResponseEnd}
use Rattle.http_response.proofs.Trailers.{trailer_end_fits, trailer_fits, trailer_lost, trailer_over, trailer_read, trailer_refused, trailer_wrong}
use Rattle.http_response.proofs.chunks.read_trailer.Goals as goal

pub returns-in_err-end-clause-reads : goal.returns-in_err-end-clause-reads
returns-in_err-end-clause-reads g c =
    let p = err_from_is_err_and c.from_residual.result c.from_residual.ensures.1 in
    subst (λ (r : Result (Unit {0}) ResponseEnd). Hears (g.P.Pipe.talk c.args.pipe.now) (g.P.Pipe.talk c.trailer_end.new.pipe)
    (ReadsTrailerBy c.args.room c.args.stock.now c.trailer_end.new.stock (g.P.Pipe.faults c.args.pipe.now) (g.P.Pipe.faults c.trailer_end.new.pipe) r))
    (sym (p.1 ∙ ap Err p.2))
    (trailer_lost c.args.room c.args.stock.now c.trailer_end.new.stock (g.P.Pipe.talk c.args.pipe.now) (g.P.Pipe.talk c.trailer_end.new.pipe)
    (g.P.Pipe.faults c.args.pipe.now) (g.P.Pipe.faults c.trailer_end.new.pipe) _ c.trailer_end.ensures.counted c.in_err-end.ensures.finds)

pub returns-then-end-room-clause-reads : goal.returns-then-end-room-clause-reads
returns-then-end-room-clause-reads g c =
    trailer_over c.args.stock.now c.trailer_end.new.stock (g.P.Pipe.talk c.args.pipe.now) (g.P.Pipe.talk c.trailer_end.new.pipe)
    (g.P.Pipe.faults c.args.pipe.now) (g.P.Pipe.faults c.trailer_end.new.pipe) c.in_ok-end.end c.in_ok-end.ensures.finds
    c.args.room (let over = c.if-end-room.true in omega (arith, over))

pub split_at-requires : goal.split_at-requires
split_at-requires g c =
    trailer_end_fits c.args.stock.now c.trailer_end.new.stock (g.P.Pipe.talk c.args.pipe.now) (g.P.Pipe.talk c.trailer_end.new.pipe)
    (g.P.Pipe.faults c.args.pipe.now) (g.P.Pipe.faults c.trailer_end.new.pipe) c.in_ok-end.end c.in_ok-end.ensures.finds c.left.result.now c.left.ensures

pub use_up-requires : goal.use_up-requires
use_up-requires g c =
    let found = rw c.in-Ok-Complete.field-0-is at c.in-Ok-Complete.ensures.complete in
    let inside = rw c.in-Ok-Complete.field-0-is at c.in-Ok-Complete.ensures.within in
    let room : length c.parse_headers.new.headers ≡ 100 = first_of (omega arith, search rules) in
    trailer_fits c.args.stock.now c.trailer_end.new.stock (g.P.Pipe.talk c.args.pipe.now) (g.P.Pipe.talk c.trailer_end.new.pipe)
    (g.P.Pipe.faults c.args.pipe.now) (g.P.Pipe.faults c.trailer_end.new.pipe) c.in_ok-end.end c.in_ok-end.ensures.finds
    c.left.result.now c.split_at.result.0.now c.split_at.ensures.front c.left.ensures c.parse_headers.new.headers c.in-Ok-Complete.length c.in-Ok-Complete.field-0-0-1 found.0 found.1 found.2 inside room

pub returns-in-Ok-Complete-clause-reads : goal.returns-in-Ok-Complete-clause-reads
returns-in-Ok-Complete-clause-reads g c =
    let found = rw c.in-Ok-Complete.field-0-is at c.in-Ok-Complete.ensures.complete in
    let inside = rw c.in-Ok-Complete.field-0-is at c.in-Ok-Complete.ensures.within in
    let room : length c.parse_headers.new.headers ≡ 100 = first_of (omega arith, search rules) in
    trailer_read c.args.stock.now c.trailer_end.new.stock (g.P.Pipe.talk c.args.pipe.now) (g.P.Pipe.talk c.trailer_end.new.pipe)
    (g.P.Pipe.faults c.args.pipe.now) (g.P.Pipe.faults c.trailer_end.new.pipe) c.in_ok-end.end c.in_ok-end.ensures.finds
    c.left.result.now c.split_at.result.0.now c.split_at.ensures.front c.left.ensures c.parse_headers.new.headers c.in-Ok-Complete.length c.in-Ok-Complete.field-0-0-1 found.0 found.1 found.2 inside room c.args.room (let fits = c.if-end-room.false in omega (arith, fits)) c.use_up.new.self c.use_up.ensures.ended

pub returns-in-Ok-Partial-clause-reads : goal.returns-in-Ok-Partial-clause-reads
returns-in-Ok-Partial-clause-reads g c =
    trailer_wrong c.args.stock.now c.trailer_end.new.stock (g.P.Pipe.talk c.args.pipe.now) (g.P.Pipe.talk c.trailer_end.new.pipe)
    (g.P.Pipe.faults c.args.pipe.now) (g.P.Pipe.faults c.trailer_end.new.pipe) c.in_ok-end.end c.in_ok-end.ensures.finds
    c.left.result.now c.split_at.result.0.now c.split_at.ensures.front c.left.ensures c.args.room (let fits = c.if-end-room.false in omega (arith, fits)) c.place-at.result c.place-at.ensures
    (rw c.in-Ok-Partial.field-0-is at c.in-Ok-Partial.ensures.partial) c.trailer_end.new.stock

pub returns-in-Err-clause-reads : goal.returns-in-Err-clause-reads
returns-in-Err-clause-reads g c =
    trailer_wrong c.args.stock.now c.trailer_end.new.stock (g.P.Pipe.talk c.args.pipe.now) (g.P.Pipe.talk c.trailer_end.new.pipe)
    (g.P.Pipe.faults c.args.pipe.now) (g.P.Pipe.faults c.trailer_end.new.pipe) c.in_ok-end.end c.in_ok-end.ensures.finds
    c.left.result.now c.split_at.result.0.now c.split_at.ensures.front c.left.ensures c.args.room (let fits = c.if-end-room.false in omega (arith, fits)) c.place-at.result c.place-at.ensures
    (trailer_refused c.args.stock.now c.trailer_end.new.stock (g.P.Pipe.talk c.args.pipe.now) (g.P.Pipe.talk c.trailer_end.new.pipe)
    (g.P.Pipe.faults c.args.pipe.now) (g.P.Pipe.faults c.trailer_end.new.pipe) c.in_ok-end.end c.in_ok-end.ensures.finds
    c.left.result.now c.split_at.result.0.now c.split_at.ensures.front c.left.ensures c.in-Err.field-0 c.in-Err.ensures.invalid
    (λ (same : c.in-Err.field-0 ≡ Error.TooManyHeaders). c.in-Err.ensures.too_many (ap Err same)))
    c.trailer_end.new.stock
