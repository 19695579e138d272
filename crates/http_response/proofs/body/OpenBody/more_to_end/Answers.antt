-- Of a body to the end what is ready is given, or the connection ended and with it the body, or it passes its limit.
use Rattle.std.proofs.Common.{ℕ, Bool, List, refl, sym, ap, ◌∙◌, subst, arith}
use Rattle.std.proofs.lemmas.Result.{err_from_is_err_and}
use Rattle.std.specs.Prelude.{Err, Result}
use Rattle.http_response.specs.Bodies.{ContinuesWithin, IsOpenWithin}
use Rattle.http_response.specs.declared.body.Rest.{Rest}
use Rattle.http_response.specs.declared.response.ResponseEnd.{ResponseEnd}
use Rattle.http_response.proofs.PlainBodies.{not_given, piece_of, ready_refused, to_end_given, to_end_long, to_end_whole}
use Rattle.http_response.proofs.body.OpenBody.more_to_end.Goals as goal

pub returns-in_err-count-clause-continues : goal.returns-in_err-count-clause-continues
returns-in_err-count-clause-continues g c = λ (limit : ℕ) (read : List ℕ) (ended : Bool) (given : List ℕ) (o : IsOpenWithin limit (record c.args.self.now { rest = Rest.ToEnd c.args.room }) read ended given).
    let p = err_from_is_err_and c.from_residual.result c.from_residual.ensures.1 in
    subst (λ (r : Result Bool ResponseEnd). ContinuesWithin limit (record c.args.self.now { stock = c.ready.new.self }) read ended given c.args.to.now c.args.to.now
    (g.P.Pipe.talk c.args.pipe.now) (g.P.Pipe.talk c.ready.new.pipe) (g.P.Pipe.faults c.args.pipe.now) (g.P.Pipe.faults c.ready.new.pipe) r) (sym (p.1 ∙ ap Err p.2))
    (ready_refused limit c.args.self.now.stock c.ready.new.self (record c.args.self.now { stock = c.ready.new.self }) read ended given c.args.to.now (g.P.Pipe.talk c.args.pipe.now) (g.P.Pipe.talk c.ready.new.pipe) (g.P.Pipe.faults c.args.pipe.now) (g.P.Pipe.faults c.ready.new.pipe) _ c.ready.ensures.counted c.in_err-count.ensures.readies)

pub returns-then-count-room-clause-continues : goal.returns-then-count-room-clause-continues
returns-then-count-room-clause-continues g c = λ (limit : ℕ) (read : List ℕ) (ended : Bool) (given : List ℕ) (o : IsOpenWithin limit (record c.args.self.now { rest = Rest.ToEnd c.args.room }) read ended given).
    to_end_long limit c.args.self.now c.args.room read given ended o c.ready.new.self (g.P.Pipe.talk c.args.pipe.now) (g.P.Pipe.talk c.ready.new.pipe) (g.P.Pipe.faults c.args.pipe.now) (g.P.Pipe.faults c.ready.new.pipe) c.in_ok-count.count c.in_ok-count.ensures.readies (record c.args.self.now { stock = c.ready.new.self }) c.args.to.now c.if-count-room.true

pub returns-then-count-eq0-clause-continues : goal.returns-then-count-eq0-clause-continues
returns-then-count-eq0-clause-continues g c = λ (limit : ℕ) (read : List ℕ) (ended : Bool) (given : List ℕ) (o : IsOpenWithin limit (record c.args.self.now { rest = Rest.ToEnd c.args.room }) read ended given).
    to_end_whole limit c.args.self.now c.args.room read given ended o c.ready.new.self (g.P.Pipe.talk c.args.pipe.now) (g.P.Pipe.talk c.ready.new.pipe) (g.P.Pipe.faults c.args.pipe.now) (g.P.Pipe.faults c.ready.new.pipe) c.in_ok-count.count c.in_ok-count.ensures.readies (record c.args.self.now { stock = c.ready.new.self }) c.args.to.now refl c.if-count-eq0.true

pub give-requires : goal.give-requires
give-requires g c =
    let e = c.in_ok-count.ensures.readies.comes.1 in
    omega (arith, e)

pub returns-in_err-give-clause-continues : goal.returns-in_err-give-clause-continues
returns-in_err-give-clause-continues g c = λ (limit : ℕ) (read : List ℕ) (ended : Bool) (given : List ℕ) (o : IsOpenWithin limit (record c.args.self.now { rest = Rest.ToEnd c.args.room }) read ended given).
    let p = err_from_is_err_and c.from_residual-in_err-give.result c.from_residual-in_err-give.ensures.1 in
    subst (λ (r : Result Bool ResponseEnd). ContinuesWithin limit (record c.args.self.now { stock = c.give.new.self }) read ended given c.args.to.now c.give.new.to
    (g.P.Pipe.talk c.args.pipe.now) (g.P.Pipe.talk c.ready.new.pipe) (g.P.Pipe.faults c.args.pipe.now) (g.P.Pipe.faults c.ready.new.pipe) r) (sym (p.1 ∙ ap Err p.2))
    (not_given limit c.args.self.now.stock c.ready.new.self (record c.args.self.now { stock = c.give.new.self }) read ended given c.args.to.now c.give.new.to (g.P.Pipe.talk c.args.pipe.now) (g.P.Pipe.talk c.ready.new.pipe) (g.P.Pipe.faults c.args.pipe.now) (g.P.Pipe.faults c.ready.new.pipe) c.in_ok-count.count c.in_ok-count.ensures.readies c.in_err-give.ensures.kept)

pub returns-clause-continues : goal.returns-clause-continues
returns-clause-continues g c = λ (limit : ℕ) (read : List ℕ) (ended : Bool) (given : List ℕ) (o : IsOpenWithin limit (record c.args.self.now { rest = Rest.ToEnd c.args.room }) read ended given).
    to_end_given limit c.args.self.now c.args.room read given ended o c.ready.new.self (g.P.Pipe.talk c.args.pipe.now) (g.P.Pipe.talk c.ready.new.pipe) (g.P.Pipe.faults c.args.pipe.now) (g.P.Pipe.faults c.ready.new.pipe) c.in_ok-count.count c.in_ok-count.ensures.readies c.give.new.self c.args.to.now c.give.new.to
    (piece_of c.args.self.now.stock c.ready.new.self (g.P.Pipe.talk c.args.pipe.now) (g.P.Pipe.talk c.ready.new.pipe) (g.P.Pipe.faults c.args.pipe.now) (g.P.Pipe.faults c.ready.new.pipe) c.in_ok-count.count c.in_ok-count.ensures.readies c.give.new.self c.in_ok-count.count (omega arith) c.in_ok-give.ensures.left c.in_ok-give.ensures.place c.in_ok-give.ensures.ended)
    (let n = c.if-count-eq0.false in omega (arith, n)) (let w = c.if-count-room.false in omega (arith, w)) c.in_ok-give.ensures.given
