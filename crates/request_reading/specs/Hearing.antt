-- What a reader of requests promises of the connection that it reads (RFC 9112).
use Rattle.std.specs.Prelude.{◌≡◌, ℕ, ◌||◌, Bool, List, ◌++◌, Option, Some, None, Result, Ok, Err}
use Rattle.engine_types.specs.declared.WireEnd.{WireEnd}
use Rattle.outside_files.specs.Counts.{Rose}
use Rattle.outside_api.specs.Pipes.{Talk}
use Rattle.request_reading.specs.Requests.{Breaks, IsRequest}
use Rattle.request_reading.specs.declared.received.Received.{Received}
use Rattle.request_reading.specs.declared.received.RequestEnd.{RequestEnd}

-- what is told of a connection grew by these bytes, which were read, and by its end, where that was found
abbrev pub Heard : List ℕ → Bool → Option Talk → Option Talk → Type 0
Heard more ended None new = new ≡ None
Heard more ended (Some old) new =
    new ≡ Some (record old { read = old.read ++ more; ended = old.ended || ended })

-- some bytes were read of a connection, or its end was found, and this holds of them
pub record Hears (old new : Option Talk) (Q : List ℕ → Bool → Type 0) : Type 0 where
  pub more : List ℕ
  pub found_end : Bool
  pub heard : Heard more found_end old new
  pub comes : Q more found_end

-- what a reading comes to: the one holds of what it gives, and the other of the cause; at a fault the count of faults rose; it
-- is free to want memory
abbrev pub ComesTo
    : {A : Type 0} → (A → Type 0) → (WireEnd → Type 0) → ℕ → ℕ → Result A RequestEnd → Type 0
ComesTo good bad old new (Ok a) = good a
ComesTo good bad old new (Err (RequestEnd.Wire WireEnd.Fault)) = Rose old new
ComesTo good bad old new (Err (RequestEnd.Wire WireEnd.BadBody)) = ⊥
ComesTo good bad old new (Err (RequestEnd.Wire WireEnd.Encoded)) = ⊥
ComesTo good bad old new (Err (RequestEnd.Wire cause)) = bad cause
ComesTo good bad old new (Err RequestEnd.Memory) = Unit {0}

-- what a reader may answer, where it read these bytes and found the end or not: the request that they begin with, or the cause
-- for which they are none
abbrev pub AnswersTo : ℕ → ℕ → Result Received RequestEnd → List ℕ → Bool → Type 0
AnswersTo old new answer read ended =
    ComesTo (λ found. IsRequest read found.method found.target found.body) (Breaks read ended) old new answer
