-- The response that bytes begin with, and the ways in which they are none (RFC 9112, sections 4 to
-- 7).
use Rattle.std.specs.Prelude.{◌≡◌, ◌⊎◌, ℕ, ◌+◌, ◌<◌, ◌≤◌, Bool, List, [], ◌++◌, length, take, flat_map, All, Option, Some, None, IsSomeAnd, IsTrue, IsFalse}
use Rattle.tree_base.specs.Limits.{most_body_bytes, most_head_bytes, most_header_lines}
use Rattle.httparse.specs.Grammar.{ResponseHead, print_response, IsResponseHead, HasNoResponse, status_code}
use Rattle.engine_types.specs.declared.WireEnd.{WireEnd}
use Rattle.response_rules.specs.Lines.{ends, passed, unfinished, head_part}
use Rattle.response_rules.specs.Heads.{Framing, to_end, sized, chunked, framing_of, head_fault_within, is_interim, has_no_body}
use Rattle.response_rules.specs.Chunks.{IsChunkedWithin, BreaksChunkedWithin}

-- heads as they are sent, one behind the other
abbrev pub print_heads : List ResponseHead → List ℕ
print_heads heads = flat_map print_response heads

-- a head that is skipped: of the grammar, with a status 1xx, with at most 100 header lines, and
-- without fault, where a body has so many bytes at most
pub record IsSkippedWithin (limit : ℕ) (head : ResponseHead) : Type 0 where
  pub is_head : IsResponseHead head
  pub interim : IsTrue (is_interim (status_code head))
  pub few : length head.fields ≤ most_header_lines
  pub sound : head_fault_within limit 0 head.fields ≡ None

-- the bytes begin with heads that are skipped, within the limit of heads, and then come the others
pub record SkipsWithin
    (limit : ℕ) (read : List ℕ) (skipped : List ResponseHead) (tail : List ℕ) : Type 0 where
  pub each : All (IsSkippedWithin limit) skipped
  pub within : length (print_heads skipped) ≤ most_head_bytes
  pub reads : read ≡ print_heads skipped ++ tail

-- the bytes begin with skipped heads and a head of the grammar, within the limits, and then come
-- the others
pub record BeginsWithHeadWithin
    (limit : ℕ) (read : List ℕ) (skipped : List ResponseHead) (head : ResponseHead)
    (rest : List ℕ) : Type 0 where
  pub skips : SkipsWithin limit read skipped (print_response head ++ rest)
  pub is_head : IsResponseHead head
  pub few : length head.fields ≤ most_header_lines
  pub within : length (print_heads skipped) + length (print_response head) ≤ most_head_bytes

-- a body of this framing is whole: to the end of the connection and not past the limit, so many
-- bytes as its head says, or chunks (RFC 9112, section 6.3)
abbrev pub HasBodyWithin : ℕ → Framing → List ℕ → Bool → List ℕ → Type 0
HasBodyWithin limit to_end bytes ended body =
    IsTrue ended × (length bytes ≤ limit) × (body ≡ bytes)
HasBodyWithin limit (sized n) bytes ended body = (n ≤ length bytes) × (body ≡ take n bytes)
HasBodyWithin limit chunked bytes ended body = IsChunkedWithin limit bytes body

-- a body of this framing, which begins at a place, is broken: past the limit, ended early, or in
-- its chunks
abbrev pub BreaksBodyWithin : ℕ → Framing → ℕ → List ℕ → Bool → WireEnd → Type 0
BreaksBodyWithin limit to_end at bytes ended cause =
    (limit < length bytes) × (cause ≡ WireEnd.TooLarge)
BreaksBodyWithin limit (sized n) at bytes ended cause =
    (length bytes < n) × IsTrue ended × (cause ≡ WireEnd.Ended)
BreaksBodyWithin limit chunked at bytes ended cause = BreaksChunkedWithin limit at bytes ended cause

-- the body of a status and a framing: none where the status says so
abbrev pub HasBodyOfWithin : ℕ → ℕ → Option Framing → List ℕ → Bool → List ℕ → Type 0
HasBodyOfWithin limit status framing bytes ended body =
    (IsTrue (has_no_body status) × (body ≡ []))
    ⊎ (IsFalse (has_no_body status)
    × IsSomeAnd framing (λ f. HasBodyWithin limit f bytes ended body))

-- the bytes that were read, and whether the connection ended then, begin with a whole response of
-- this status and of this body, which has so many bytes at most
pub record IsResponseWithin
    (limit : ℕ) (read : List ℕ) (ended : Bool) (status : ℕ) (body : List ℕ) : Type 0 where
  pub skipped : List ResponseHead
  pub head : ResponseHead
  pub rest : List ℕ
  pub begins : BeginsWithHeadWithin limit read skipped head rest
  pub final : IsFalse (is_interim (status_code head))
  pub sound : head_fault_within limit 0 head.fields ≡ None
  pub has_status : status ≡ status_code head
  pub has_body : HasBodyOfWithin limit status (framing_of head.fields) rest ended body

-- the bytes that were read, and whether the connection ended then, are no response, in the way that
-- the cause names, where a body has so many bytes at most
pub data BreaksWithin (limit : ℕ) : List ℕ → Bool → WireEnd → Type 0 where
  -- the connection ended before a head's empty line
  no_head : (read tail : List ℕ) (ended : Bool) (skipped : List ResponseHead)
      → SkipsWithin limit read skipped tail
      → head_part (length (print_heads skipped)) tail ≡ unfinished → IsTrue ended
      → BreaksWithin limit read ended WireEnd.Ended
  -- a head passes a limit
  long_head : (read tail : List ℕ) (ended : Bool) (skipped : List ResponseHead)
      → SkipsWithin limit read skipped tail
      → head_part (length (print_heads skipped)) tail ≡ passed
      → BreaksWithin limit read ended WireEnd.TooLarge
  -- up to its empty line, a head isn't one of the grammar
  bad_head : (read tail : List ℕ) (ended : Bool) (skipped : List ResponseHead) (n : ℕ)
      → SkipsWithin limit read skipped tail
      → head_part (length (print_heads skipped)) tail ≡ ends n → HasNoResponse (take n tail)
      → BreaksWithin limit read ended (WireEnd.Malformed (length (print_heads skipped)))
  -- a head's fields are wrong
  bad_fields : (read rest : List ℕ) (ended : Bool) (skipped : List ResponseHead)
      (head : ResponseHead)
      (cause : WireEnd)
      → BeginsWithHeadWithin limit read skipped head rest
      → head_fault_within limit (length (print_heads skipped)) head.fields ≡ Some cause
      → BreaksWithin limit read ended cause
  -- the body is broken
  bad_body : (read rest : List ℕ) (ended : Bool) (skipped : List ResponseHead) (head : ResponseHead)
      (cause : WireEnd)
      → BeginsWithHeadWithin limit read skipped head rest
      → head_fault_within limit 0 head.fields ≡ None
      → IsFalse (has_no_body (status_code head))
      → IsSomeAnd (framing_of head.fields)
      (λ f. BreaksBodyWithin limit f
      (length (print_heads skipped) + length (print_response head)) rest ended cause)
      → BreaksWithin limit read ended cause

-- a head that is skipped, where the limit is that of a body
abbrev pub IsSkipped : ResponseHead → Type 0
IsSkipped = IsSkippedWithin most_body_bytes

-- heads that are skipped, where the limit is that of a body
abbrev pub Skips : List ℕ → List ResponseHead → List ℕ → Type 0
Skips = SkipsWithin most_body_bytes

-- a head behind skipped ones, where the limit is that of a body
abbrev pub BeginsWithHead : List ℕ → List ResponseHead → ResponseHead → List ℕ → Type 0
BeginsWithHead = BeginsWithHeadWithin most_body_bytes

-- a whole body within the limit of a body
abbrev pub HasBody : Framing → List ℕ → Bool → List ℕ → Type 0
HasBody = HasBodyWithin most_body_bytes

-- a broken body where the limit is that of a body
abbrev pub BreaksBody : Framing → ℕ → List ℕ → Bool → WireEnd → Type 0
BreaksBody = BreaksBodyWithin most_body_bytes

-- the body of a status and a framing within the limit of a body
abbrev pub HasBodyOf : ℕ → Option Framing → List ℕ → Bool → List ℕ → Type 0
HasBodyOf = HasBodyOfWithin most_body_bytes

-- a whole response with a body within the limit of a body
abbrev pub IsResponse : List ℕ → Bool → ℕ → List ℕ → Type 0
IsResponse = IsResponseWithin most_body_bytes

-- no response, where the limit is that of a body
abbrev pub Breaks : List ℕ → Bool → WireEnd → Type 0
Breaks = BreaksWithin most_body_bytes
