-- What a reader of responses promises of the connection that it reads (RFC 9112).
use Rattle.std.specs.Prelude.{ℕ, Bool, List, Option, Result, Ok, Err}
use Rattle.tree_base.specs.Limits.{most_body_bytes}
use Rattle.engine_types.specs.declared.WireEnd.{WireEnd}
use Rattle.outside_files.specs.Counts.{Rose}
use Rattle.outside_api.specs.Pipes.{Talk}
use Rattle.response_rules.specs.Responses.{BreaksWithin, IsResponse}
use Rattle.http_response.specs.Hearing.{Heard}
use Rattle.http_response.specs.declared.response.Response.{Response}
use Rattle.http_response.specs.declared.response.ResponseEnd.{ResponseEnd}

-- bytes that are no response in the way that the cause names, where a body has so many bytes at
-- most, or a fault that was counted. A reader doesn't judge a body
abbrev pub EndsByWithin : ℕ → List ℕ → Bool → ℕ → ℕ → WireEnd → Type 0
EndsByWithin limit read ended old new WireEnd.Fault = Rose old new
EndsByWithin limit read ended old new WireEnd.BadBody = ⊥
EndsByWithin limit read ended old new cause = BreaksWithin limit read ended cause

-- the same where the limit is that of a body
abbrev pub EndsBy : List ℕ → Bool → ℕ → ℕ → WireEnd → Type 0
EndsBy = EndsByWithin most_body_bytes

-- what a reader may answer, where it read these bytes and found the end or not: the response that
-- they begin with, or the cause for which they are none; it is free to want memory
abbrev pub AnswersTo : List ℕ → Bool → ℕ → ℕ → Result Response ResponseEnd → Type 0
AnswersTo read ended old new (Ok response) = IsResponse read ended response.status response.body
AnswersTo read ended old new (Err (ResponseEnd.Wire cause)) = EndsBy read ended old new cause
AnswersTo read ended old new (Err ResponseEnd.Memory) = Unit {0}

-- a reader read some bytes of a connection, and answers to these: by what is told of the connection
-- before and after, and its counts of faults
pub record Reads
    (old new : Option Talk) (faults_old faults_new : ℕ)
    (answer : Result Response ResponseEnd) : Type 0 where
  pub read : List ℕ
  pub ended : Bool
  pub heard : Heard read ended old new
  pub answers : AnswersTo read ended faults_old faults_new answer
