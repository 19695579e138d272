-- What reading a connection changes of what is told of it, and what a reading comes to.
use Rattle.std.specs.Prelude.{◌≡◌, ℕ, ◌||◌, Bool, List, ◌++◌, Option, Some, None, Result, Ok, Err}
use Rattle.engine_types.specs.declared.WireEnd.{WireEnd}
use Rattle.outside_files.specs.Counts.{Rose}
use Rattle.outside_api.specs.Pipes.{Talk}
use Rattle.http_response.specs.declared.response.ResponseEnd.{ResponseEnd}

-- what is told of a connection grew by these bytes, which were read, and by its end, where that was
-- found
abbrev pub Heard : List ℕ → Bool → Option Talk → Option Talk → Type 0
Heard more ended None new = new ≡ None
Heard more ended (Some old) new =
    new ≡ Some (record old { read = old.read ++ more; ended = old.ended || ended })

-- some bytes were read of a connection, or its end was found, and this holds of them
pub record Hears (old new : Option Talk) (Q : List ℕ → Bool → Type 0) : Type 0 where
  pub more : List ℕ
  pub found_end : Bool
  pub heard : Heard more found_end old new
  pub comes : Q more found_end

-- what a reading comes to: the one holds of what it gives, and the other of the cause; at a fault
-- the count of faults rose; it is free to want memory
abbrev pub ComesTo
    : {A : Type 0} → (A → Type 0) → (WireEnd → Type 0) → ℕ → ℕ → Result A ResponseEnd → Type 0
ComesTo good bad old new (Ok a) = good a
ComesTo good bad old new (Err (ResponseEnd.Wire WireEnd.Fault)) = Rose old new
ComesTo good bad old new (Err (ResponseEnd.Wire WireEnd.BadBody)) = ⊥
ComesTo good bad old new (Err (ResponseEnd.Wire cause)) = bad cause
ComesTo good bad old new (Err ResponseEnd.Memory) = Unit {0}
