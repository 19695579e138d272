-- Two bytes are read, which are a CRLF or none.
use Rattle.std.proofs.Common.{length, sym, ap, ◌∙◌, subst, arith}
use Rattle.std.proofs.lemmas.Result.{err_from_is_err_and}
use Rattle.std.specs.Prelude.{Err, Result}
use Rattle.http_response.specs.ChunksRead.{ReadsEndBy}
use Rattle.http_response.specs.Hearing.{Hears}
use Rattle.http_response.specs.declared.response.ResponseEnd.{ResponseEnd}
use Rattle.http_response.proofs.ChunkEnds.{end_lost}
use Rattle.http_response.proofs.chunks.read_chunk_end.Goals as goal

pub returns-in_err-read_on-clause-reads : goal.returns-in_err-read_on-clause-reads
returns-in_err-read_on-clause-reads g c =
    let p = err_from_is_err_and c.from_residual.result c.from_residual.ensures.1 in
    subst (λ (r : Result (Unit {0}) ResponseEnd). Hears (g.P.Pipe.talk c.args.pipe.now) (g.P.Pipe.talk c.read_on.new.pipe)
    (ReadsEndBy c.args.at c.args.stock.now c.read_on.new.self (g.P.Pipe.faults c.args.pipe.now) (g.P.Pipe.faults c.read_on.new.pipe) r))
    (sym (p.1 ∙ ap Err p.2))
    (end_lost c.args.at c.args.stock.now c.reading.stock (g.P.Pipe.talk c.args.pipe.now) (g.P.Pipe.talk c.reading.pipe) c.reading.invariant.heard
    c.read_on.new.self (g.P.Pipe.talk c.read_on.new.pipe) (g.P.Pipe.faults c.args.pipe.now) (g.P.Pipe.faults c.reading.pipe) (g.P.Pipe.faults c.read_on.new.pipe) _
    c.reading.invariant.counted c.read_on.ensures.counted
    (let e = ap length c.left.ensures in let t = c.reading-test.true in omega (arith, e, t)) c.in_err-read_on.ensures.reads)
