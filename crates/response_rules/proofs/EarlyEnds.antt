-- Each way in which a response ends early needs the connection's end.
use Rattle.std.proofs.Common.{◌≡◌, ℕ, Bool, true, false, List, Option, Some, None, IsSomeAnd, IsTrue, if◌then◌else◌, nat_lt, refl, sym, ap, ◌∙◌, true≢false}
use Rattle.tree_base.specs.Limits.{most_body_bytes}
use Rattle.engine_types.specs.declared.WireEnd.{WireEnd}
use Rattle.response_rules.specs.Heads.{Framing, to_end, sized, chunked, fault_by, framing_of, is_encoded}
use Rattle.response_rules.specs.Chunks.{BreaksTrailer, cut, long, past_framing, bad, BreaksChunk, line_cut, line_long, line_bad, framing_long, body_long, bytes_cut, end_bad, trailer}
use Rattle.response_rules.specs.Responses.{BreaksBody, Breaks, no_head, long_head, bad_head, bad_fields, bad_body}

-- whether a cause is another than an early end
abbrev is_other : WireEnd → Bool
is_other WireEnd.Ended = false
is_other _ = true

abbrev is_other_fault : Option WireEnd → Bool
is_other_fault None = true
is_other_fault (Some cause) = is_other cause

no_fault : (at : ℕ) (f : Option Framing) (encoded : Bool)
    → is_other_fault (fault_by at f encoded) ≡ true
no_fault at None encoded = refl
no_fault at (Some to_end) true = refl
no_fault at (Some to_end) false = refl
no_fault at (Some (sized n)) true = refl
no_fault at (Some (sized n)) false = past (nat_lt most_body_bytes n)
  where
    past : (t : Bool) → is_other_fault (if t then Some WireEnd.TooLarge else None) ≡ true
    past true = refl
    past false = refl
no_fault at (Some chunked) true = refl
no_fault at (Some chunked) false = refl

trailer_ends : (at framed : ℕ) (bytes : List ℕ) (ended : Bool) (cause : WireEnd) → BreaksTrailer at framed bytes ended cause
    → is_other cause ≡ false → IsTrue ended
trailer_ends at framed bytes ended cause (cut _ _ _ _ part over) e = over
trailer_ends at framed bytes ended cause (long _ _ _ _ part) e = absurd (true≢false e)
trailer_ends at framed bytes ended cause (past_framing _ _ n _ _ part past) e = absurd (true≢false e)
trailer_ends at framed bytes ended cause (bad _ _ n _ _ part fits none) e = absurd (true≢false e)

chunk_ends : (at before framed : ℕ) (bytes : List ℕ) (ended : Bool) (cause : WireEnd) → BreaksChunk at before framed bytes ended cause
    → is_other cause ≡ false → IsTrue ended
chunk_ends at before framed bytes ended cause (line_cut _ _ _ _ _ part over) e = over
chunk_ends at before framed bytes ended cause (line_long _ _ _ _ _ part) e = absurd (true≢false e)
chunk_ends at before framed bytes ended cause (line_bad _ _ _ n _ _ part none) e = absurd (true≢false e)
chunk_ends at before framed bytes ended cause (framing_long _ _ _ _ rest _ line begins past) e = absurd (true≢false e)
chunk_ends at before framed bytes ended cause (body_long _ _ _ _ rest _ line begins past) e = absurd (true≢false e)
chunk_ends at before framed bytes ended cause (bytes_cut _ _ _ _ rest _ line begins lines some fits short over) e = over
chunk_ends at before framed bytes ended cause (end_bad _ _ _ _ rest _ line begins lines some fits whole other) e = absurd (true≢false e)
chunk_ends at before framed bytes ended cause (trailer _ _ _ _ rest _ line _ begins lines none breaks) e =
    trailer_ends _ _ rest ended cause breaks e

body_ends : (f : Option Framing) (at : ℕ) (bytes : List ℕ) (ended : Bool) (cause : WireEnd)
    → IsSomeAnd f (λ framing. BreaksBody framing at bytes ended cause) → is_other cause ≡ false → IsTrue ended
body_ends None at bytes ended cause breaks e = absurd breaks
body_ends (Some to_end) at bytes ended cause breaks e = absurd (true≢false (sym (ap is_other breaks.1) ∙ e))
body_ends (Some (sized n)) at bytes ended cause breaks e = breaks.1
body_ends (Some chunked) at bytes ended cause breaks e = chunk_ends _ _ _ breaks.tail ended cause breaks.breaks e

-- a response that has ended early is that of a connection that ended
pub over : (read : List ℕ) (ended : Bool) (cause : WireEnd) → Breaks read ended cause → is_other cause ≡ false → IsTrue ended
over read ended cause (no_head _ tail _ skipped skips part at_end) e = at_end
over read ended cause (long_head _ tail _ skipped skips part) e = absurd (true≢false e)
over read ended cause (bad_head _ tail _ skipped n skips part none) e = absurd (true≢false e)
over read ended cause (bad_fields _ rest _ skipped head _ begins fault) e =
    absurd (true≢false (sym (no_fault _ (framing_of head.fields) (is_encoded head.fields))
    ∙ (ap is_other_fault fault ∙ e)))
over read ended cause (bad_body _ rest _ skipped head _ begins sound some breaks) e =
    body_ends (framing_of head.fields) _ rest ended cause breaks e
