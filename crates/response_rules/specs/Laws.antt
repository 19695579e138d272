-- What holds of all bytes that are no response.
use Rattle.std.specs.Prelude.{ℕ, false, List}
use Rattle.engine_types.specs.declared.Request.{Request}
use Rattle.engine_types.specs.declared.WireEnd.{WireEnd}
use Rattle.response_rules.specs.Broken.{IsBroken}

-- a response has ended early only where the connection ended
abbrev pub EndedOnlyAtTheEnd : Type 0
EndedOnlyAtTheEnd = (request : Request) (read : List ℕ)
    → IsBroken request WireEnd.Ended read false → ⊥
