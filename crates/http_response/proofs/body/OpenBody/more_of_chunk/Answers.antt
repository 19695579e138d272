-- Behind the bytes of a chunk its CRLF is read, and then the next.
use Rattle.std.proofs.Common.{◌||◌, ◌++◌, ℕ, Bool, List, sym, ap, ◌∙◌, subst}
use Rattle.std.proofs.lemmas.Result.{err_from_is_err_and}
use Rattle.std.specs.Prelude.{Err, Result}
use Rattle.http_response.specs.Bodies.{ContinuesWithin, IsOpenWithin}
use Rattle.http_response.specs.declared.body.Rest.{Rest}
use Rattle.http_response.specs.declared.response.ResponseEnd.{ResponseEnd}
use Rattle.http_response.proofs.ChunkedBodies.{end_refused, past_chunk}
use Rattle.http_response.proofs.Giving.{continues_on}
use Rattle.http_response.proofs.body.OpenBody.more_of_chunk.Goals as goal

pub returns-in_err-read_chunk_end-clause-continues : goal.returns-in_err-read_chunk_end-clause-continues
returns-in_err-read_chunk_end-clause-continues g c = λ (limit : ℕ) (read : List ℕ) (ended : Bool) (given : List ℕ) (o : IsOpenWithin limit (record c.args.self.now { rest = Rest.Chunk c.args.left c.args.at c.args.more c.args.lines }) read ended given).
    let p = err_from_is_err_and c.from_residual.result c.from_residual.ensures.1 in
    subst (λ (r : Result Bool ResponseEnd). ContinuesWithin limit (record c.args.self.now { stock = c.read_chunk_end.new.stock }) read ended given c.args.to.now c.args.to.now
    (g.P.Pipe.talk c.args.pipe.now) (g.P.Pipe.talk c.read_chunk_end.new.pipe) (g.P.Pipe.faults c.args.pipe.now) (g.P.Pipe.faults c.read_chunk_end.new.pipe) r) (sym (p.1 ∙ ap Err p.2))
    (end_refused limit c.args.self.now c.args.left c.args.at c.args.more c.args.lines read given ended o c.if-left-eq0.true c.read_chunk_end.new.stock (record c.args.self.now { stock = c.read_chunk_end.new.stock }) c.args.to.now (g.P.Pipe.talk c.args.pipe.now) (g.P.Pipe.talk c.read_chunk_end.new.pipe) (g.P.Pipe.faults c.args.pipe.now) (g.P.Pipe.faults c.read_chunk_end.new.pipe) _ c.read_chunk_end.ensures.counted c.in_err-read_chunk_end.ensures.reads)

pub returns-then-left-eq0-clause-continues : goal.returns-then-left-eq0-clause-continues
returns-then-left-eq0-clause-continues g c = λ (limit : ℕ) (read : List ℕ) (ended : Bool) (given : List ℕ) (o : IsOpenWithin limit (record c.args.self.now { rest = Rest.Chunk c.args.left c.args.at c.args.more c.args.lines }) read ended given).
    let past = c.in_ok-read_chunk_end.ensures.reads in
    continues_on limit c.next_chunk.new.self read past.more ended past.found_end given c.args.to.now c.next_chunk.new.to
    (g.P.Pipe.talk c.args.pipe.now) (g.P.Pipe.talk c.read_chunk_end.new.pipe) (g.P.Pipe.talk c.next_chunk.new.pipe)
    (g.P.Pipe.faults c.args.pipe.now) (g.P.Pipe.faults c.read_chunk_end.new.pipe) (g.P.Pipe.faults c.next_chunk.new.pipe) c.next_chunk.result
    c.read_chunk_end.ensures.counted c.next_chunk.ensures.counted past.heard
    (c.next_chunk.ensures.continues limit (read ++ past.more) (ended || past.found_end) given
    (past_chunk limit c.args.self.now c.args.left c.args.at c.args.more c.args.lines read given ended o c.if-left-eq0.true c.read_chunk_end.new.stock past.more past.found_end past.comes))

pub returns-clause-continues : goal.returns-clause-continues
returns-clause-continues g c = λ (limit : ℕ) (read : List ℕ) (ended : Bool) (given : List ℕ) (o : IsOpenWithin limit (record c.args.self.now { rest = Rest.Chunk c.args.left c.args.at c.args.more c.args.lines }) read ended given).
    c.bytes_of_chunk.ensures.continues limit read ended given o
