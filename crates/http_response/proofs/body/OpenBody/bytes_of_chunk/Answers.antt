-- Of the bytes of a chunk some are given, or the connection ended before.
use Rattle.std.proofs.Common.{ℕ, Bool, List, sym, ap, ◌∙◌, subst, arith}
use Rattle.std.proofs.lemmas.Result.{err_from_is_err_and}
use Rattle.std.specs.Prelude.{Err, Result}
use Rattle.http_response.specs.Bodies.{ContinuesWithin, IsOpenWithin}
use Rattle.http_response.specs.declared.body.Rest.{Rest}
use Rattle.http_response.specs.declared.response.ResponseEnd.{ResponseEnd}
use Rattle.http_response.proofs.ChunkedBodies.{chunk_cut, chunk_given}
use Rattle.http_response.proofs.PlainBodies.{not_given, piece_of, ready_refused}
use Rattle.http_response.proofs.body.OpenBody.bytes_of_chunk.Goals as goal

pub returns-in_err-ready-clause-continues : goal.returns-in_err-ready-clause-continues
returns-in_err-ready-clause-continues g c = λ (limit : ℕ) (read : List ℕ) (ended : Bool) (given : List ℕ) (o : IsOpenWithin limit (record c.args.self.now { rest = Rest.Chunk c.args.left c.args.at c.args.more c.args.lines }) read ended given).
    let p = err_from_is_err_and c.from_residual.result c.from_residual.ensures.1 in
    subst (λ (r : Result Bool ResponseEnd). ContinuesWithin limit (record c.args.self.now { stock = c.ready.new.self }) read ended given c.args.to.now c.args.to.now
    (g.P.Pipe.talk c.args.pipe.now) (g.P.Pipe.talk c.ready.new.pipe) (g.P.Pipe.faults c.args.pipe.now) (g.P.Pipe.faults c.ready.new.pipe) r) (sym (p.1 ∙ ap Err p.2))
    (ready_refused limit c.args.self.now.stock c.ready.new.self (record c.args.self.now { stock = c.ready.new.self }) read ended given c.args.to.now (g.P.Pipe.talk c.args.pipe.now) (g.P.Pipe.talk c.ready.new.pipe) (g.P.Pipe.faults c.args.pipe.now) (g.P.Pipe.faults c.ready.new.pipe) _ c.ready.ensures.counted c.in_err-ready.ensures.readies)

pub returns-then-count-eq0-clause-continues : goal.returns-then-count-eq0-clause-continues
returns-then-count-eq0-clause-continues g c = λ (limit : ℕ) (read : List ℕ) (ended : Bool) (given : List ℕ) (o : IsOpenWithin limit (record c.args.self.now { rest = Rest.Chunk c.args.left c.args.at c.args.more c.args.lines }) read ended given).
    chunk_cut limit c.args.self.now c.args.left c.args.at c.args.more c.args.lines read given ended o c.ready.new.self (g.P.Pipe.talk c.args.pipe.now) (g.P.Pipe.talk c.ready.new.pipe) (g.P.Pipe.faults c.args.pipe.now) (g.P.Pipe.faults c.ready.new.pipe) c.in_ok-ready.field-0 c.in_ok-ready.ensures.readies (record c.args.self.now { stock = c.ready.new.self }) c.args.to.now
    (let m = c.min-count.ensures in let n = c.if-count-eq0.true in let s = c.requires.some in omega (arith, m, n, s))

pub give-requires : goal.give-requires
give-requires g c =
    let e = c.in_ok-ready.ensures.readies.comes.1 in
    let m = c.min-count.ensures in
    omega (arith, e, m)

pub returns-in_err-give-clause-continues : goal.returns-in_err-give-clause-continues
returns-in_err-give-clause-continues g c = λ (limit : ℕ) (read : List ℕ) (ended : Bool) (given : List ℕ) (o : IsOpenWithin limit (record c.args.self.now { rest = Rest.Chunk c.args.left c.args.at c.args.more c.args.lines }) read ended given).
    let p = err_from_is_err_and c.from_residual-in_err-give.result c.from_residual-in_err-give.ensures.1 in
    subst (λ (r : Result Bool ResponseEnd). ContinuesWithin limit (record c.args.self.now { stock = c.give.new.self }) read ended given c.args.to.now c.give.new.to
    (g.P.Pipe.talk c.args.pipe.now) (g.P.Pipe.talk c.ready.new.pipe) (g.P.Pipe.faults c.args.pipe.now) (g.P.Pipe.faults c.ready.new.pipe) r) (sym (p.1 ∙ ap Err p.2))
    (not_given limit c.args.self.now.stock c.ready.new.self (record c.args.self.now { stock = c.give.new.self }) read ended given c.args.to.now c.give.new.to (g.P.Pipe.talk c.args.pipe.now) (g.P.Pipe.talk c.ready.new.pipe) (g.P.Pipe.faults c.args.pipe.now) (g.P.Pipe.faults c.ready.new.pipe) c.in_ok-ready.field-0 c.in_ok-ready.ensures.readies c.in_err-give.ensures.kept)

pub returns-clause-continues : goal.returns-clause-continues
returns-clause-continues g c = λ (limit : ℕ) (read : List ℕ) (ended : Bool) (given : List ℕ) (o : IsOpenWithin limit (record c.args.self.now { rest = Rest.Chunk c.args.left c.args.at c.args.more c.args.lines }) read ended given).
    chunk_given limit c.args.self.now c.args.left c.args.at c.args.more c.args.lines read given ended o c.ready.new.self (g.P.Pipe.talk c.args.pipe.now) (g.P.Pipe.talk c.ready.new.pipe) (g.P.Pipe.faults c.args.pipe.now) (g.P.Pipe.faults c.ready.new.pipe) c.in_ok-ready.field-0 c.in_ok-ready.ensures.readies c.give.new.self c.args.to.now c.give.new.to c.min-count.result
    (piece_of c.args.self.now.stock c.ready.new.self (g.P.Pipe.talk c.args.pipe.now) (g.P.Pipe.talk c.ready.new.pipe) (g.P.Pipe.faults c.args.pipe.now) (g.P.Pipe.faults c.ready.new.pipe) c.in_ok-ready.field-0 c.in_ok-ready.ensures.readies c.give.new.self c.min-count.result (let m = c.min-count.ensures in omega (arith, m)) c.in_ok-give.ensures.left c.in_ok-give.ensures.place c.in_ok-give.ensures.ended)
    (let n = c.if-count-eq0.false in omega (arith, n)) (let m = c.min-count.ensures in omega (arith, m)) c.in_ok-give.ensures.given
