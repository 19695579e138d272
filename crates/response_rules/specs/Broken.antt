-- What a lost response may mean: the bytes that are no response to a request, by each cause.
use Rattle.std.specs.Prelude.{◌≡◌, ◌⊎◌, ℕ, Bool, List, Some, None, IsFalse, IsTrue}
use Rattle.engine_types.specs.declared.Request.{Request}
use Rattle.engine_types.specs.declared.Reply.{Reply}
use Rattle.engine_types.specs.declared.WireEnd.{WireEnd}
use Rattle.response_rules.specs.Responses.{IsResponse, Breaks}
use Rattle.response_rules.specs.Replies.{reply_of}
use Rattle.response_rules.specs.Values.{has_many_values}

-- the bytes begin with a whole response, and this is the reply that it gives to the request
pub record IsReply
    (request : Request) (read : List ℕ) (ended : Bool) (reply : Reply) : Type 0 where
  pub status : ℕ
  pub body : List ℕ
  pub response : IsResponse read ended status body
  pub few : IsFalse (has_many_values request status body)
  pub gives : reply_of request status body ≡ Some reply

-- the bytes begin with a whole response, whose status is a good one and whose body isn't of the
-- form that goes with it
pub record HasBadBody (request : Request) (read : List ℕ) (ended : Bool) : Type 0 where
  pub status : ℕ
  pub body : List ℕ
  pub response : IsResponse read ended status body
  pub few : IsFalse (has_many_values request status body)
  pub bad : reply_of request status body ≡ None

-- the bytes begin with a whole response, whose body has more values than the limit
pub record HasManyValues (request : Request) (read : List ℕ) (ended : Bool) : Type 0 where
  pub status : ℕ
  pub body : List ℕ
  pub response : IsResponse read ended status body
  pub many : IsTrue (has_many_values request status body)

-- the bytes that were read, and whether the connection ended then, are no response to the request
-- in the way that the cause names. A fault of the connection is no such way
abbrev pub IsBroken : Request → WireEnd → List ℕ → Bool → Type 0
IsBroken request WireEnd.Fault read ended = ⊥
IsBroken request WireEnd.BadBody read ended = HasBadBody request read ended
IsBroken request WireEnd.Ended read ended = Breaks read ended WireEnd.Ended
IsBroken request (WireEnd.Malformed at) read ended = Breaks read ended (WireEnd.Malformed at)
IsBroken request WireEnd.Encoded read ended = Breaks read ended WireEnd.Encoded
IsBroken request WireEnd.TooLarge read ended =
    Breaks read ended WireEnd.TooLarge ⊎ HasManyValues request read ended
