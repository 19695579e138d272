-- What the faults of an observation come from.
use Rattle.std.specs.Prelude.{ℕ, List, Option}
use Rattle.engine_types.specs.declared.Outcome.{Outcome}
use Rattle.engine_types.specs.declared.SeenEnd.{SeenEnd}
use Rattle.engine_types.specs.declared.SeenFault.{SeenFault}
use Rattle.outside_api.specs.Hands.{Heard, HasCause}

-- a fault that tells of a lost response to a request, or of one that wasn't sent, comes only where an exchange with
-- that request may end so; this is heard after it
abbrev pub HasCauseOfFault : Option (List Heard) → ℕ → ℕ → SeenFault → Type 0
HasCauseOfFault heard old new (SeenFault.Lost request cause) =
    HasCause request heard old new (Outcome.Lost cause)
HasCauseOfFault heard old new (SeenFault.NotSent request) =
    HasCause request heard old new Outcome.NotSent
HasCauseOfFault heard old new _ = Unit {0}

-- the same of how an observation ended
abbrev pub HasCauseOfEnd : Option (List Heard) → ℕ → ℕ → SeenEnd → Type 0
HasCauseOfEnd heard old new (SeenEnd.Good seen) = Unit {0}
HasCauseOfEnd heard old new (SeenEnd.Bad fault) = HasCauseOfFault heard old new fault
