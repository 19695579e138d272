-- Whole responses and broken ones exclude one another (RFC 9112).
use Rattle.std.specs.Prelude.{◌≡◌, ℕ, Bool, List}
use Rattle.engine_types.specs.declared.Reply.{Reply}
use Rattle.engine_types.specs.declared.Request.{Request}
use Rattle.engine_types.specs.declared.WireEnd.{WireEnd}
use Rattle.response_rules.specs.Broken.{IsBroken, IsReply}
use Rattle.response_rules.specs.Responses.{Breaks, IsResponse}

-- bytes that begin with a whole response are broken in no way
abbrev pub WholeIsNotBroken : Type 0
WholeIsNotBroken = (read : List ℕ) (ended : Bool) (status : ℕ) (body : List ℕ) (cause : WireEnd)
    → IsResponse read ended status body → Breaks read ended cause → ⊥

-- bytes begin with one whole response at most: its status and its body are the bytes' own
abbrev pub ResponsesAreOne : Type 0
ResponsesAreOne = (read : List ℕ) (ended : Bool) (status other : ℕ) (body more : List ℕ)
    → IsResponse read ended status body → IsResponse read ended other more
    → (status ≡ other) × (body ≡ more)

-- what gives a reply to a request isn't broken for it, whatever the cause
abbrev pub RepliesAreNotBroken : Type 0
RepliesAreNotBroken =
    (request : Request) (read : List ℕ) (ended : Bool) (reply : Reply) (cause : WireEnd)
    → IsReply request read ended reply → IsBroken request cause read ended → ⊥
