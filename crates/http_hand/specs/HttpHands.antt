-- What a hand over a wire tells, and what it begins with.
use Rattle.std.specs.Prelude.{◌≡◌, ℕ, List, [], Option, None, IfSome}
use Rattle.engine_types.specs.declared.Engine.{Engine}
use Rattle.outside_api.specs.Clock.{Clock}
use Rattle.outside_api.specs.Pipes.{Talk}

-- no connection was closed yet, where it is told
abbrev pub HasNoPast : Option (List Talk) → Type 0
HasNoPast past = IfSome past (λ talks. talks ≡ [])

-- the Engine that is told: none
abbrev pub no_engine : Option Engine
no_engine = None

-- a wire's clock as its hand tells it, which knows where the first reading stands
abbrev pub at_place : Option ℕ → Clock → Clock
at_place place clock = record clock { place = place }
