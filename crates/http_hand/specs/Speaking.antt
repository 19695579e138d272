-- What an exchange over a wire says on its connection, and what its outcome says of that (RFC 9112).
use Rattle.std.specs.Prelude.{◌≡◌, ℕ, ◌+◌, ◌≤◌, ◌||◌, Bool, true, false, List, [], ◌++◌, length, take, Option, Some, None, IfSome, IsFalse, IsTrue, is_some}
use Rattle.engine_types.specs.declared.Outcome.{Outcome}
use Rattle.engine_types.specs.declared.Request.{Request}
use Rattle.engine_types.specs.declared.WireEnd.{WireEnd}
use Rattle.outside_files.specs.Counts.{Rose}
use Rattle.outside_api.specs.Pipes.{Talk, ToldBy}
use Rattle.outside_api.specs.Wires.{GrewByTalk}
use Rattle.response_rules.specs.Broken.{IsBroken, IsReply}
use Rattle.response_rules.specs.Replies.{reply_of}
use Rattle.response_rules.specs.Values.{has_many_values}
use Rattle.http_response.specs.Hearing.{Heard}

-- the first bytes of others, or all of them
abbrev pub IsBeginning : List ℕ → List ℕ → Type 0
IsBeginning written bytes = (n : ℕ) × (n ≤ length bytes) × (written ≡ take n bytes)

-- what was written, by the outcome: the whole request before a response is read, nothing of what wasn't sent, and
-- else a beginning of it
abbrev pub WritesBy : List ℕ → Outcome → List ℕ → Type 0
WritesBy bytes (Outcome.Answered reply) written = written ≡ bytes
WritesBy bytes (Outcome.Lost WireEnd.Fault) written = IsBeginning written bytes
WritesBy bytes (Outcome.Lost cause) written = written ≡ bytes
WritesBy bytes Outcome.NotSent written = written ≡ []
WritesBy bytes Outcome.Memory written = IsBeginning written bytes

-- what the outcome of a read response says of the bytes that were read, and of the count of faults: they begin with the
-- response whose reply it is, or are none in the way that the cause names; and at a fault the count rose
abbrev pub AnswersBy : Request → List ℕ → Bool → ℕ → ℕ → Outcome → Type 0
AnswersBy request read ended old new (Outcome.Answered reply) = IsReply request read ended reply
AnswersBy request read ended old new (Outcome.Lost WireEnd.Fault) = Rose old new
AnswersBy request read ended old new (Outcome.Lost cause) = IsBroken request cause read ended
AnswersBy request read ended old new Outcome.NotSent = ⊥
AnswersBy request read ended old new Outcome.Memory = Unit {0}

-- the same of any outcome: what wasn't sent is a fault too
abbrev pub SaysOf : Request → List ℕ → Bool → ℕ → ℕ → Outcome → Type 0
SaysOf request read ended old new Outcome.NotSent = Rose old new
SaysOf request read ended old new outcome = AnswersBy request read ended old new outcome

-- the reply that a status and a body give, or that they give none, and that the body has too many values; it is free to want
-- memory
abbrev pub IsOutcomeOf : Request → ℕ → List ℕ → Outcome → Type 0
IsOutcomeOf request status body (Outcome.Answered reply) =
    IsFalse (has_many_values request status body) × (reply_of request status body ≡ Some reply)
IsOutcomeOf request status body (Outcome.Lost WireEnd.TooLarge) = IsTrue (has_many_values request status body)
IsOutcomeOf request status body (Outcome.Lost WireEnd.BadBody) =
    IsFalse (has_many_values request status body) × (reply_of request status body ≡ None)
IsOutcomeOf request status body (Outcome.Lost cause) = ⊥
IsOutcomeOf request status body Outcome.NotSent = ⊥
IsOutcomeOf request status body Outcome.Memory = Unit {0}

-- a response was read on a connection, with this outcome: by what is told of it before and after, and its counts of faults
pub record AnswersOn (request : Request) (old new : Option Talk) (faults_old faults_new : ℕ) (outcome : Outcome) : Type 0 where
  pub read : List ℕ
  pub ended : Bool
  pub heard : Heard read ended old new
  pub answers : AnswersBy request read ended faults_old faults_new outcome

-- a talk in which these bytes were written, and then these were read
abbrev pub after_both : List ℕ → List ℕ → Bool → Talk → Talk
after_both written read ended talk = record {
  written = talk.written ++ written;
  read = talk.read ++ read;
  ended = talk.ended || ended;
}

-- an exchange was made on a connection, with these bytes of the request
pub record SpeaksOn
    (request : Request) (bytes : List ℕ) (outcome : Outcome) (old new : Option Talk) (faults_old faults_new : ℕ) : Type 0 where
  pub written : List ℕ
  pub read : List ℕ
  pub ended : Bool
  pub told : ToldBy (after_both written read ended) old new
  pub writes : WritesBy bytes outcome written
  pub says : SaysOf request read ended faults_old faults_new outcome

-- what is told of a connection in its exchange: what was written on it, by the outcome, and the bytes that were read
abbrev pub Spoke : List ℕ → Outcome → List ℕ → Bool → Talk → Type 0
Spoke bytes outcome read ended talk =
    WritesBy bytes outcome talk.written × (talk.read ≡ read) × (talk.ended ≡ ended)

-- a connection was closed on which one exchange was made, with these bytes of the request: by the wire's past, which is told
-- where the connection tells, and its count of faults
pub record SpeaksOnce
    (request : Request) (bytes : List ℕ) (outcome : Outcome) (past_old past_new : Option (List Talk))
    (faults_old faults_new : ℕ) : Type 0 where
  pub talk : Option Talk
  pub read : List ℕ
  pub ended : Bool
  pub even : is_some past_old ≡ is_some talk
  pub closed : GrewByTalk past_old talk past_new
  pub spoke : IfSome talk (Spoke bytes outcome read ended)
  pub says : SaysOf request read ended faults_old faults_new outcome

-- where no connection was opened, nothing was sent: a dial failed, or memory was wanted
abbrev pub IsUnspoken : Outcome → ℕ → ℕ → Type 0
IsUnspoken Outcome.NotSent old new = Rose old new
IsUnspoken Outcome.Memory old new = Unit {0}
IsUnspoken outcome old new = ⊥

-- an exchange opened one connection and closed it, or opened none: by the wire's past and its counts of connections and
-- of faults
abbrev pub SpeaksBy
    : Bool → Request → List ℕ → Outcome → Option (List Talk) → Option (List Talk) → ℕ → ℕ → ℕ → ℕ → Type 0
SpeaksBy true request bytes outcome past_old past_new dialled_old dialled_new faults_old faults_new =
    (dialled_new ≡ dialled_old + 1)
    × SpeaksOnce request bytes outcome past_old past_new faults_old faults_new
SpeaksBy false request bytes outcome past_old past_new dialled_old dialled_new faults_old faults_new =
    (dialled_new ≡ dialled_old) × (past_new ≡ past_old) × IsUnspoken outcome faults_old faults_new

-- an exchange opens one connection at most, and closes it
abbrev pub Speaks
    : Request → List ℕ → Outcome → Option (List Talk) → Option (List Talk) → ℕ → ℕ → ℕ → ℕ → Type 0
Speaks request bytes outcome past_old past_new dialled_old dialled_new faults_old faults_new =
    (opened : Bool) × SpeaksBy opened request bytes outcome past_old past_new dialled_old dialled_new faults_old faults_new
