-- What an exchange leaves in a hand's log, and what is told of a new hand.
use Rattle.std.specs.Prelude.{◌≡◌, ◌⊎◌, ℕ, ◌+◌, Bool, List, [], ◌∷◌, ◌++◌, length, take, Option, Some, None, IfSome, IsSomeAnd}
use Rattle.outside_files.specs.Counts.{Rose}
use Rattle.engine_types.specs.declared.Request.{Request}
use Rattle.engine_types.specs.declared.Outcome.{Outcome}
use Rattle.engine_types.specs.declared.Exchange.{Exchange}
use Rattle.engine_types.specs.declared.Engine.{Engine}
use Rattle.engine_types.specs.declared.Reply.{Reply}
use Rattle.engine_types.specs.declared.WireEnd.{WireEnd}
use Rattle.outside_api.specs.Rows.{IsOfRow}
use Rattle.response_rules.specs.Broken.{IsBroken, IsReply}

-- the log with one exchange more
abbrev pub logged : List Exchange → Request → Outcome → List Exchange
logged log request outcome = log ++ record { request = request; outcome = outcome } ∷ []

-- the log grew by exactly this exchange; where memory was wanted it may have stayed
abbrev pub Logs : List Exchange → Request → Outcome → List Exchange → Type 0
Logs old request Outcome.Memory new = (new ≡ old) ⊎ (new ≡ logged old request Outcome.Memory)
Logs old request outcome new = new ≡ logged old request outcome

-- what was heard in an exchange: the bytes that it read, and whether its connection ended
pub record Heard : Type 0 where
  pub read : List ℕ
  pub ended : Bool

-- what is told to be heard has one item for each exchange of the log
abbrev pub HearsEach : List Exchange → Option (List Heard) → Type 0
HearsEach log heard = IfSome heard (λ items. length items ≡ length log)

-- nothing was heard yet, where it is told
abbrev pub HeardNothing : Option (List Heard) → Type 0
HeardNothing heard = IfSome heard (λ items. items ≡ [])

-- what was heard before stays
abbrev pub HearsMore : Option (List Heard) → Option (List Heard) → Type 0
HearsMore None new = new ≡ None
HearsMore (Some old) new = IsSomeAnd new (λ items. take (length old) items ≡ old)

-- what was heard grows by one item where the log grows, and else stays; a hand that tells nothing of it goes on so
abbrev pub HearsNext : List Exchange → List Exchange → Option (List Heard) → Option (List Heard) → Type 0
HearsNext before after None new = new ≡ None
HearsNext before after (Some old) new =
    ((after ≡ before) × (new ≡ Some old))
    ⊎ ((length after ≡ length before + 1) × (item : Heard) × (new ≡ Some (old ++ item ∷ [])))

-- this was heard last
abbrev pub HeardLast : Heard → List Heard → Type 0
HeardLast item items = (before : List Heard) × (items ≡ before ++ item ∷ [])

-- bytes that are no response to the request in the way that the cause names (RFC 9112): where the hand tells what it
-- heard, they are what it heard last
abbrev pub HeardBroken : Request → WireEnd → Option (List Heard) → Type 0
HeardBroken request cause heard =
    (item : Heard) × IsBroken request cause item.read item.ended × IfSome heard (HeardLast item)

-- where the hand tells what it heard, what it heard last begins with a response that gives this reply to the request
abbrev pub HeardReply : Request → Reply → Option (List Heard) → Type 0
HeardReply request reply heard =
    IfSome heard (λ items. (item : Heard) × HeardLast item items × IsReply request item.read item.ended reply)

-- the outcome of one exchange, after which this is heard, has its cause in it: a reply is one of its request's, and the one that
-- was heard; of a fault is told only where the count of faults rose in the exchange, and of a lost response also where it is
-- broken in the way that the cause names
abbrev pub HasCause : Request → Option (List Heard) → ℕ → ℕ → Outcome → Type 0
HasCause request heard old new (Outcome.Answered reply) =
    IsOfRow request reply × HeardReply request reply heard
HasCause request heard old new (Outcome.Lost cause) = Rose old new ⊎ HeardBroken request cause heard
HasCause request heard old new Outcome.NotSent = Rose old new
HasCause request heard old new Outcome.Memory = Unit {0}

-- a new hand that tells its Engine begins with that of the plug, where the plug tells one
abbrev pub BeginsWith : Option Engine → Option Engine → Type 0
BeginsWith plugged told = IfSome plugged (λ engine. IfSome told (λ own. own ≡ engine))
