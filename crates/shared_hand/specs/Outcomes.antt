-- What the exchanges of a hand may come to that shares an Engine in memory.
use Rattle.std.specs.Prelude.{◌≡◌}
use Rattle.engine_types.specs.declared.Engine.{Engine}
use Rattle.engine_types.specs.declared.Outcome.{Outcome}
use Rattle.engine_types.specs.declared.Reply.{Reply}
use Rattle.engine_types.specs.declared.Request.{Request}
use Rattle.memory_engine.specs.declared.catalogue.Catalogue.{Catalogue}
use Rattle.memory_engine.specs.Serving.{served}
use Rattle.run_model.specs.EngineRules.{Answers}

-- an Engine in memory gives this reply to the request, and it is one that an Engine may give
pub record IsGiven (request : Request) (reply : Reply) : Type 0 where
  pub catalogue : Catalogue
  pub old : Engine
  pub new : Engine
  pub serves : served catalogue old request ≡ (reply, new)
  pub answers : Answers old request reply new

-- an exchange is answered by what an Engine in memory gives, or wanted memory: it is sent, and not lost
abbrev pub IsOfShared : Request → Outcome → Type 0
IsOfShared request (Outcome.Answered reply) = IsGiven request reply
IsOfShared request (Outcome.Lost cause) = ⊥
IsOfShared request Outcome.NotSent = ⊥
IsOfShared request Outcome.Memory = Unit {0}
