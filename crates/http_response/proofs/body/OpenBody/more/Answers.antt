-- What is still to come says which piece is next.
use Rattle.std.proofs.Common.{ℕ, Bool, List, false, refl, ap, subst}
use Rattle.std.specs.Prelude.{Ok}
use Rattle.http_response.specs.Bodies.{IsOpenWithin, is_done}
use Rattle.http_response.specs.declared.body.Rest.{Rest}
use Rattle.http_response.proofs.Giving.{continues_here}
use Rattle.http_response.proofs.body.OpenBody.more.Goals as goal

pub returns-in-Nothing-clause-continues : goal.returns-in-Nothing-clause-continues
returns-in-Nothing-clause-continues g c = λ (limit : ℕ) (read : List ℕ) (ended : Bool) (given : List ℕ) (o : IsOpenWithin limit c.args.self.now read ended given).
    continues_here limit c.args.self.now read ended given c.args.to.now c.args.to.now (g.P.Pipe.talk c.args.pipe.now) (g.P.Pipe.faults c.args.pipe.now) (g.P.Pipe.faults c.args.pipe.now) (Ok false)
    (refl, o.whole (ap is_done c.in-Nothing.is))

pub returns-in-Sized-clause-continues : goal.returns-in-Sized-clause-continues
returns-in-Sized-clause-continues g c = λ (limit : ℕ) (read : List ℕ) (ended : Bool) (given : List ℕ) (o : IsOpenWithin limit c.args.self.now read ended given).
    c.more_sized.ensures.continues limit read ended given
    (subst (λ (r : Rest). IsOpenWithin limit (record c.args.self.now { rest = r }) read ended given) c.in-Sized.is o)

pub returns-in-ToEnd-clause-continues : goal.returns-in-ToEnd-clause-continues
returns-in-ToEnd-clause-continues g c = λ (limit : ℕ) (read : List ℕ) (ended : Bool) (given : List ℕ) (o : IsOpenWithin limit c.args.self.now read ended given).
    c.more_to_end.ensures.continues limit read ended given
    (subst (λ (r : Rest). IsOpenWithin limit (record c.args.self.now { rest = r }) read ended given) c.in-ToEnd.is o)

pub returns-in-Chunks-clause-continues : goal.returns-in-Chunks-clause-continues
returns-in-Chunks-clause-continues g c = λ (limit : ℕ) (read : List ℕ) (ended : Bool) (given : List ℕ) (o : IsOpenWithin limit c.args.self.now read ended given).
    c.next_chunk.ensures.continues limit read ended given
    (subst (λ (r : Rest). IsOpenWithin limit (record c.args.self.now { rest = r }) read ended given) c.in-Chunks.is o)

pub returns-in-Chunk-clause-continues : goal.returns-in-Chunk-clause-continues
returns-in-Chunk-clause-continues g c = λ (limit : ℕ) (read : List ℕ) (ended : Bool) (given : List ℕ) (o : IsOpenWithin limit c.args.self.now read ended given).
    c.more_of_chunk.ensures.continues limit read ended given
    (subst (λ (r : Rest). IsOpenWithin limit (record c.args.self.now { rest = r }) read ended given) c.in-Chunk.is o)
