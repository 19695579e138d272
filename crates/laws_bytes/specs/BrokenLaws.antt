-- Bytes that are no response are it in one way, and more bytes change nothing of it, but where the connection's end alone
-- broke them (RFC 9112, section 8).
use Rattle.std.specs.Prelude.{◌≡◌, ◌≢◌, ℕ, Bool, false, List, ◌++◌}
use Rattle.engine_types.specs.declared.Reply.{Reply}
use Rattle.engine_types.specs.declared.Request.{Request}
use Rattle.engine_types.specs.declared.WireEnd.{WireEnd}
use Rattle.response_rules.specs.Broken.{IsBroken, IsReply}
use Rattle.response_rules.specs.Responses.{Breaks}

-- what is broken before the connection's end is broken in the same way, whatever follows
abbrev pub BrokenStays : Type 0
BrokenStays = (request : Request) (cause : WireEnd) (read more : List ℕ) (ended : Bool)
    → IsBroken request cause read false → IsBroken request cause (read ++ more) ended

-- what is broken otherwise than by an early end is broken in the same way whether the connection
-- ended or not, and whatever follows
abbrev pub FaultsStay : Type 0
FaultsStay = (read more : List ℕ) (ended later : Bool) (cause : WireEnd) → cause ≢ WireEnd.Ended
    → Breaks read ended cause → Breaks (read ++ more) later cause

-- no bytes are broken in two ways: the causes exclude one another
abbrev pub BrokenInOneWay : Type 0
BrokenInOneWay = (request : Request) (cause other : WireEnd) (read : List ℕ) (ended : Bool)
    → IsBroken request cause read ended → IsBroken request other read ended → cause ≡ other

-- the way in which the first bytes were broken is that of all of them: it doesn't depend on where
-- the bytes are cut
abbrev pub CutsBreakTheSame : Type 0
CutsBreakTheSame =
    (request : Request) (cause other : WireEnd) (read more : List ℕ) (ended : Bool)
    → IsBroken request cause read false → IsBroken request other (read ++ more) ended
    → cause ≡ other

-- what is broken before the connection's end gives no reply, whatever follows
abbrev pub BrokenGivesNoReply : Type 0
BrokenGivesNoReply =
    (request : Request) (cause : WireEnd) (reply : Reply) (read more : List ℕ) (ended : Bool)
    → IsBroken request cause read false → IsReply request (read ++ more) ended reply → ⊥
