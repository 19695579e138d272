-- What is read of the heads of a response (RFC 9112, sections 2 to 4, and RFC 9110, section 15.2).
use Rattle.std.specs.Prelude.{◌≡◌, ℕ, ◌+◌, ◌<◌, ◌≤◌, ◌^◌, ◌||◌, Bool, List, ◌++◌, length, drop, Some, None, Result, Ok, Err, IsFalse}
use Rattle.tree_base.specs.Limits.{most_head_bytes, most_header_lines}
use Rattle.engine_types.specs.declared.WireEnd.{WireEnd}
use Rattle.httparse.specs.Grammar.{IsResponseHead, ResponseHead, print_response, status_code}
use Rattle.response_rules.specs.Heads.{framing_of, head_fault_within, is_interim}
use Rattle.response_rules.specs.Responses.{BeginsWithHeadWithin, BreaksWithin, SkipsWithin, print_heads}
use Rattle.http_fields.specs.Fields.{framing_told}
use Rattle.http_response.specs.Hearing.{ComesTo}
use Rattle.http_response.specs.Stocks.{IsFilled, left, place}
use Rattle.http_response.specs.declared.heads.Head.{Head}
use Rattle.http_response.specs.declared.response.ResponseEnd.{ResponseEnd}
use Rattle.http_response.specs.declared.stock.Stock.{Stock}

-- bytes behind so many bytes of skipped heads begin with this head, within the limits, which has no
-- fault where a body has so many bytes at most
pub record IsHead (limit : ℕ) (bytes : List ℕ) (before : ℕ) (found : Head) : Type 0 where
  pub head : ResponseHead
  pub rest : List ℕ
  pub is_head : IsResponseHead head
  pub reads : bytes ≡ print_response head ++ rest
  pub few : length head.fields ≤ most_header_lines
  pub within : before + length (print_response head) ≤ most_head_bytes
  pub sound : head_fault_within limit 0 head.fields ≡ None
  pub status_is : found.status ≡ status_code head
  pub framing_is : framing_of head.fields ≡ Some (framing_told found.framing)
  pub length_is : found.length ≡ length (print_response head)

-- bytes behind so many bytes of skipped heads are broken in the way of a cause, whatever these heads
-- are
abbrev pub BreaksBehind : ℕ → ℕ → List ℕ → Bool → WireEnd → Type 0
BreaksBehind limit before bytes ended cause =
    (read : List ℕ) (skipped : List ResponseHead) → SkipsWithin limit read skipped bytes
    → length (print_heads skipped) ≡ before → BreaksWithin limit read ended cause

-- what is made of the bytes behind skipped heads, where these hold a whole head: it, or its fault
abbrev pub ParsedBy : ℕ → List ℕ → ℕ → Result Head WireEnd → Type 0
ParsedBy limit bytes before (Ok found) = IsHead limit bytes before found
ParsedBy limit bytes before (Err WireEnd.Fault) = ⊥
ParsedBy limit bytes before (Err WireEnd.BadBody) = ⊥
ParsedBy limit bytes before (Err cause) =
    (ended : Bool) → BreaksBehind limit before bytes ended cause

-- the next head is read, behind so many bytes of skipped heads
abbrev pub NextHeadBy
    : ℕ → Stock → Stock → ℕ → ℕ → ℕ → Result Head ResponseEnd → List ℕ → Bool → Type 0
NextHeadBy limit old new before f g answer more found_end =
    ComesTo
    (λ found. IsFilled old new more found_end
    × IsHead limit (drop before (left old ++ more)) before found)
    (BreaksBehind limit before (drop before (left old ++ more)) (old.ended || found_end)) f g answer

-- heads are skipped that stand in front of the bytes that are left, so many bytes
pub record IsSkipping (limit : ℕ) (now : Stock) (before : ℕ) : Type 0 where
  pub heads : List ResponseHead
  pub skips : SkipsWithin limit (left now) heads (drop before (left now))
  pub length_is : length (print_heads heads) ≡ before

-- the bytes that were left begin with skipped heads and this one, and what stands behind them is
-- left
pub record IsPastHead
    (limit : ℕ) (old new : Stock) (read : List ℕ) (ended : Bool) (found : Head) : Type 0 where
  pub skipped : List ResponseHead
  pub head : ResponseHead
  pub begins : BeginsWithHeadWithin limit read skipped head (left new)
  pub final : IsFalse (is_interim (status_code head))
  pub sound : head_fault_within limit 0 head.fields ≡ None
  pub status_is : found.status ≡ status_code head
  pub framing_is : framing_of head.fields ≡ Some (framing_told found.framing)
  pub ended_is : new.ended ≡ ended
  pub place_is : place old < 2 ^ 64
      → place new ≡ place old + (length (print_heads skipped) + length (print_response head))

-- the head of the response is read, behind those that are skipped
abbrev pub ReadHeadBy
    : ℕ → Stock → Stock → ℕ → ℕ → Result Head ResponseEnd → List ℕ → Bool → Type 0
ReadHeadBy limit old new f g answer more found_end =
    ComesTo (IsPastHead limit old new (left old ++ more) (old.ended || found_end))
    (BreaksWithin limit (left old ++ more) (old.ended || found_end)) f g answer
