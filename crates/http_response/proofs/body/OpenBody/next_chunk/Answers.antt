-- The next chunk's line is read, and then some of its bytes, or the lines behind the last.
use Rattle.std.proofs.Common.{◌<◌, ◌≤◌, ◌||◌, ◌++◌, ℕ, Bool, List, refl, sym, ap, ◌∙◌, subst, arith}
use Rattle.std.proofs.lemmas.Result.{err_from_is_err_and}
use Rattle.std.specs.Prelude.{Err, Result}
use Rattle.http_response.specs.Bodies.{ContinuesWithin, IsOpenWithin}
use Rattle.http_response.specs.declared.body.Rest.{Rest}
use Rattle.http_response.specs.declared.response.ResponseEnd.{ResponseEnd}
use Rattle.http_response.proofs.ChunkedBodies.{chunk_over, counted, framing_over, into_chunk, size_refused, trailer_ends, trailer_refuses}
use Rattle.http_response.proofs.Giving.{continues_on}
use Rattle.http_response.proofs.body.OpenBody.next_chunk.Goals as goal

pub returns-in_err-line-clause-continues : goal.returns-in_err-line-clause-continues
returns-in_err-line-clause-continues g c = λ (limit : ℕ) (read : List ℕ) (ended : Bool) (given : List ℕ) (o : IsOpenWithin limit (record c.args.self.now { rest = Rest.Chunks c.args.room c.args.lines }) read ended given).
    let p = err_from_is_err_and c.from_residual.result c.from_residual.ensures.1 in
    subst (λ (r : Result Bool ResponseEnd). ContinuesWithin limit (record c.args.self.now { stock = c.read_size.new.stock }) read ended given c.args.to.now c.args.to.now
    (g.P.Pipe.talk c.args.pipe.now) (g.P.Pipe.talk c.read_size.new.pipe) (g.P.Pipe.faults c.args.pipe.now) (g.P.Pipe.faults c.read_size.new.pipe) r) (sym (p.1 ∙ ap Err p.2))
    (size_refused limit c.args.self.now c.args.room c.args.lines read given ended o c.read_size.new.stock (record c.args.self.now { stock = c.read_size.new.stock }) c.args.to.now (g.P.Pipe.talk c.args.pipe.now) (g.P.Pipe.talk c.read_size.new.pipe) (g.P.Pipe.faults c.args.pipe.now) (g.P.Pipe.faults c.read_size.new.pipe) _ c.read_size.ensures.counted c.in_err-line.ensures.reads)

pub returns-then-framing-lines-clause-continues : goal.returns-then-framing-lines-clause-continues
returns-then-framing-lines-clause-continues g c = λ (limit : ℕ) (read : List ℕ) (ended : Bool) (given : List ℕ) (o : IsOpenWithin limit (record c.args.self.now { rest = Rest.Chunks c.args.room c.args.lines }) read ended given).
    let is = counted limit c.args.self.now c.args.room c.args.lines read given ended o c.read_size.new.stock (g.P.Pipe.talk c.args.pipe.now) (g.P.Pipe.talk c.read_size.new.pipe) (g.P.Pipe.faults c.args.pipe.now) (g.P.Pipe.faults c.read_size.new.pipe) c.in_ok-line.line c.in_ok-line.ensures.reads c.saturating_add-framing.result c.saturating_add-framing.ensures in
    framing_over limit c.args.self.now c.args.room c.args.lines read given ended o c.read_size.new.stock (g.P.Pipe.talk c.args.pipe.now) (g.P.Pipe.talk c.read_size.new.pipe) (g.P.Pipe.faults c.args.pipe.now) (g.P.Pipe.faults c.read_size.new.pipe) c.in_ok-line.line c.in_ok-line.ensures.reads (record c.args.self.now { stock = c.read_size.new.stock }) c.args.to.now c.saturating_add-framing.result is c.if-framing-lines.true

pub returns-then-size-room-clause-continues : goal.returns-then-size-room-clause-continues
returns-then-size-room-clause-continues g c = λ (limit : ℕ) (read : List ℕ) (ended : Bool) (given : List ℕ) (o : IsOpenWithin limit (record c.args.self.now { rest = Rest.Chunks c.args.room c.args.lines }) read ended given).
    chunk_over limit c.args.self.now c.args.room c.args.lines read given ended o c.read_size.new.stock (g.P.Pipe.talk c.args.pipe.now) (g.P.Pipe.talk c.read_size.new.pipe) (g.P.Pipe.faults c.args.pipe.now) (g.P.Pipe.faults c.read_size.new.pipe) c.in_ok-line.line c.in_ok-line.ensures.reads (record c.args.self.now { stock = c.read_size.new.stock }) c.args.to.now c.if-size-room.true

pub returns-in_err-read_trailer-clause-continues : goal.returns-in_err-read_trailer-clause-continues
returns-in_err-read_trailer-clause-continues g c = λ (limit : ℕ) (read : List ℕ) (ended : Bool) (given : List ℕ) (o : IsOpenWithin limit (record c.args.self.now { rest = Rest.Chunks c.args.room c.args.lines }) read ended given).
    let p = err_from_is_err_and c.from_residual-in_err-read_trailer.result c.from_residual-in_err-read_trailer.ensures.1 in
    let is = counted limit c.args.self.now c.args.room c.args.lines read given ended o c.read_size.new.stock (g.P.Pipe.talk c.args.pipe.now) (g.P.Pipe.talk c.read_size.new.pipe) (g.P.Pipe.faults c.args.pipe.now) (g.P.Pipe.faults c.read_size.new.pipe) c.in_ok-line.line c.in_ok-line.ensures.reads c.saturating_add-framing.result c.saturating_add-framing.ensures in
    subst (λ (r : Result Bool ResponseEnd). ContinuesWithin limit (record c.args.self.now { stock = c.read_trailer.new.stock }) read ended given c.args.to.now c.args.to.now
    (g.P.Pipe.talk c.args.pipe.now) (g.P.Pipe.talk c.read_trailer.new.pipe) (g.P.Pipe.faults c.args.pipe.now) (g.P.Pipe.faults c.read_trailer.new.pipe) r) (sym (p.1 ∙ ap Err p.2))
    (trailer_refuses limit c.args.self.now c.args.room c.args.lines read given ended o c.read_size.new.stock (g.P.Pipe.talk c.args.pipe.now) (g.P.Pipe.talk c.read_size.new.pipe) (g.P.Pipe.faults c.args.pipe.now) (g.P.Pipe.faults c.read_size.new.pipe) c.in_ok-line.line c.in_ok-line.ensures.reads c.read_trailer.new.stock (record c.args.self.now { stock = c.read_trailer.new.stock }) c.args.to.now (g.P.Pipe.talk c.read_trailer.new.pipe) (g.P.Pipe.faults c.read_trailer.new.pipe) c.if-size-eq0.true
    c.read_size.ensures.counted c.read_trailer.ensures.counted (let w = c.if-framing-lines.false in omega (arith, is, w)) _ c.in_err-read_trailer.ensures.reads)

pub returns-then-size-eq0-clause-continues : goal.returns-then-size-eq0-clause-continues
returns-then-size-eq0-clause-continues g c = λ (limit : ℕ) (read : List ℕ) (ended : Bool) (given : List ℕ) (o : IsOpenWithin limit (record c.args.self.now { rest = Rest.Chunks c.args.room c.args.lines }) read ended given).
    let is = counted limit c.args.self.now c.args.room c.args.lines read given ended o c.read_size.new.stock (g.P.Pipe.talk c.args.pipe.now) (g.P.Pipe.talk c.read_size.new.pipe) (g.P.Pipe.faults c.args.pipe.now) (g.P.Pipe.faults c.read_size.new.pipe) c.in_ok-line.line c.in_ok-line.ensures.reads c.saturating_add-framing.result c.saturating_add-framing.ensures in
    trailer_ends limit c.args.self.now c.args.room c.args.lines read given ended o c.read_size.new.stock (g.P.Pipe.talk c.args.pipe.now) (g.P.Pipe.talk c.read_size.new.pipe) (g.P.Pipe.faults c.args.pipe.now) (g.P.Pipe.faults c.read_size.new.pipe) c.in_ok-line.line c.in_ok-line.ensures.reads c.read_trailer.new.stock (record c.args.self.now { stock = c.read_trailer.new.stock; rest = Rest.Nothing }) c.args.to.now (g.P.Pipe.talk c.read_trailer.new.pipe) (g.P.Pipe.faults c.read_trailer.new.pipe) c.if-size-eq0.true
    c.read_size.ensures.counted c.read_trailer.ensures.counted (let w = c.if-framing-lines.false in omega (arith, is, w)) refl c.in_ok-read_trailer.ensures.reads

pub returns-clause-continues : goal.returns-clause-continues
returns-clause-continues g c = λ (limit : ℕ) (read : List ℕ) (ended : Bool) (given : List ℕ) (o : IsOpenWithin limit (record c.args.self.now { rest = Rest.Chunks c.args.room c.args.lines }) read ended given).
    let size = c.in_ok-line.ensures.reads in
    let some : 0 < c.in_ok-line.line.size = (let n = c.if-size-eq0.false in omega (arith, n)) in
    let within : c.in_ok-line.line.size ≤ c.args.room = (let w = c.if-size-room.false in omega (arith, w)) in
    let is = counted limit c.args.self.now c.args.room c.args.lines read given ended o c.read_size.new.stock (g.P.Pipe.talk c.args.pipe.now) (g.P.Pipe.talk c.read_size.new.pipe) (g.P.Pipe.faults c.args.pipe.now) (g.P.Pipe.faults c.read_size.new.pipe) c.in_ok-line.line c.in_ok-line.ensures.reads c.saturating_add-framing.result c.saturating_add-framing.ensures in
    continues_on limit c.bytes_of_chunk.new.self read size.more ended size.found_end given c.args.to.now c.bytes_of_chunk.new.to
    (g.P.Pipe.talk c.args.pipe.now) (g.P.Pipe.talk c.read_size.new.pipe) (g.P.Pipe.talk c.bytes_of_chunk.new.pipe)
    (g.P.Pipe.faults c.args.pipe.now) (g.P.Pipe.faults c.read_size.new.pipe) (g.P.Pipe.faults c.bytes_of_chunk.new.pipe) c.bytes_of_chunk.result
    c.read_size.ensures.counted c.bytes_of_chunk.ensures.counted size.heard
    (c.bytes_of_chunk.ensures.continues limit (read ++ size.more) (ended || size.found_end) given
    (into_chunk limit c.args.self.now c.args.room c.args.lines read given ended o c.read_size.new.stock (g.P.Pipe.talk c.args.pipe.now) (g.P.Pipe.talk c.read_size.new.pipe) (g.P.Pipe.faults c.args.pipe.now) (g.P.Pipe.faults c.read_size.new.pipe) c.in_ok-line.line c.in_ok-line.ensures.reads c.place-at.result c.place-at.ensures some within
    c.saturating_add-framing.result is (let w = c.if-framing-lines.false in omega (arith, w))))
