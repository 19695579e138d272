-- What more bytes change of a response: nothing, where it was whole before the connection's end (RFC 9112, section 6.3).
use Rattle.std.specs.Prelude.{◌≡◌, ℕ, Bool, false, List, ◌++◌}
use Rattle.engine_types.specs.declared.WireEnd.{WireEnd}
use Rattle.response_rules.specs.Responses.{Breaks, IsResponse}

-- a response that was whole before the connection's end stays that response, whatever follows
abbrev pub ResponsesStay : Type 0
ResponsesStay = (read more : List ℕ) (ended : Bool) (status : ℕ) (body : List ℕ)
    → IsResponse read false status body → IsResponse (read ++ more) ended status body

-- a response that was whole in the first bytes is the one that all bytes begin with: its status and
-- its body don't depend on where the bytes are cut
abbrev pub CutsReadTheSame : Type 0
CutsReadTheSame =
    (read more : List ℕ) (ended : Bool) (status other : ℕ) (body other_body : List ℕ)
    → IsResponse read false status body → IsResponse (read ++ more) ended other other_body
    → (status ≡ other) × (body ≡ other_body)

-- bytes that began with a whole response are broken in no way, whatever follows
abbrev pub WholeStaysUnbroken : Type 0
WholeStaysUnbroken = (read more : List ℕ) (ended : Bool) (status : ℕ) (body : List ℕ) (cause : WireEnd)
    → IsResponse read false status body → Breaks (read ++ more) ended cause → ⊥
