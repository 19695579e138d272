-- What is broken otherwise than by the connection's end is broken in the same way with more bytes behind.
use Rattle.std.proofs.Common.{◌≡◌, ℕ, ◌+◌, ◌≤◌, Bool, false, List, ◌++◌, length, take, drop, Option, Some, None, refl, sym, ap, ◌∙◌, subst, inl, inr, arith, append_assoc, true≢false}
use Rattle.std.proofs.lemmas.List.{drop-append-le, length-append, length-drop, take-append-le}
use Rattle.std.specs.Prelude.{IsSomeAnd, IsTrue}
use Rattle.engine_types.specs.declared.Request.{Request}
use Rattle.engine_types.specs.declared.WireEnd.{WireEnd}
use Rattle.httparse.specs.Grammar.{ChunkLine, HasNoChunkLine, HasNoResponse, HasNoSection, ResponseHead, chunk_size, print_chunk_line}
use Rattle.response_rules.specs.Broken.{IsBroken}
use Rattle.response_rules.specs.Chunks.{BeginsWithLine, BreaksChunk, BreaksChunked, BreaksTrailer, bad, body_long, bytes_cut, cut, end_bad, framing_long, line_bad, line_cut, line_long, long, past_framing, print_chunks, trailer}
use Rattle.response_rules.specs.Heads.{Framing, chunked, framing_of, sized, to_end}
use Rattle.response_rules.specs.Lines.{ends, passed, unfinished}
use Rattle.response_rules.specs.Responses.{Breaks, BreaksBody, Skips, bad_body, bad_fields, bad_head, long_head, no_head, print_heads}
use Rattle.laws_bytes.proofs.MoreBytes.{chunk_line_part_stays, chunk_line_within, head_part_stays, head_within, trailer_part_stays, trailer_within}
use Rattle.laws_bytes.proofs.Staying.{head_stays, stays}

-- the connection's end isn't what breaks it
abbrev IsOther : Bool → WireEnd → Type 0
IsOther ended cause = IsTrue ended → cause ≡ WireEnd.Ended → ⊥

passed_told : passed ≡ unfinished → ⊥
passed_told e = cc e

ends_told : (n : ℕ) → ends n ≡ unfinished → ⊥
ends_told n e = cc e

longer : (bytes more : List ℕ) → length bytes ≤ length (bytes ++ more)
longer bytes more = let l = length-append bytes more in omega (arith, l)

trailer_stays : (at framed : ℕ) (bytes more : List ℕ) (ended later : Bool) (cause : WireEnd) → BreaksTrailer at framed bytes ended cause
    → IsOther ended cause → BreaksTrailer at framed (bytes ++ more) later cause
trailer_stays at framed bytes more ended later cause (cut _ _ _ _ part over) other = absurd (other over refl)
trailer_stays at framed bytes more ended later cause (long _ _ _ _ part) other =
    long at framed (bytes ++ more) later (trailer_part_stays bytes more passed part passed_told)
trailer_stays at framed bytes more ended later cause (past_framing _ _ n _ _ part past) other =
    past_framing at framed n (bytes ++ more) later (trailer_part_stays bytes more (ends n) part (ends_told n)) past
trailer_stays at framed bytes more ended later cause (bad _ _ n _ _ part fits none) other =
    bad at framed n (bytes ++ more) later (trailer_part_stays bytes more (ends n) part (ends_told n)) fits
    (subst (λ (t : List ℕ). HasNoSection t) (sym (take-append-le n bytes more (trailer_within bytes n part))) none)

line_stays : (bytes more : List ℕ) (line : ChunkLine) (rest : List ℕ) → BeginsWithLine bytes line rest → BeginsWithLine (bytes ++ more) line (rest ++ more)
line_stays bytes more line rest b = record {
  reads = (b.reads.0, ap (λ (l : List ℕ). l ++ more) b.reads.1 ∙ append_assoc (print_chunk_line line) rest more);
  within = b.within;
}

end_stays : (n : ℕ) (rest more : List ℕ) → n + 2 ≤ length rest → take 2 (drop n (rest ++ more)) ≡ take 2 (drop n rest)
end_stays n rest more whole =
    ap (take 2) (drop-append-le n rest more (omega (arith, whole)))
    ∙ take-append-le 2 (drop n rest) more (let l = length-drop n rest in omega (arith, l, whole))

chunk_stays : (at before framed : ℕ) (bytes more : List ℕ) (ended later : Bool) (cause : WireEnd) → BreaksChunk at before framed bytes ended cause
    → IsOther ended cause → BreaksChunk at before framed (bytes ++ more) later cause
chunk_stays at before framed bytes more ended later cause (line_cut _ _ _ _ _ part over) other = absurd (other over refl)
chunk_stays at before framed bytes more ended later cause (line_long _ _ _ _ _ part) other =
    line_long at before framed (bytes ++ more) later (chunk_line_part_stays bytes more passed part passed_told)
chunk_stays at before framed bytes more ended later cause (line_bad _ _ _ n _ _ part none) other =
    line_bad at before framed n (bytes ++ more) later (chunk_line_part_stays bytes more (ends n) part (ends_told n))
    (subst (λ (t : List ℕ). HasNoChunkLine t) (sym (take-append-le n bytes more (chunk_line_within bytes n part))) none)
chunk_stays at before framed bytes more ended later cause (framing_long _ _ _ _ rest _ line begins past) other =
    framing_long at before framed (bytes ++ more) (rest ++ more) later line (line_stays bytes more line rest begins) past
chunk_stays at before framed bytes more ended later cause (body_long _ _ _ _ rest _ line begins past) other =
    body_long at before framed (bytes ++ more) (rest ++ more) later line (line_stays bytes more line rest begins) past
chunk_stays at before framed bytes more ended later cause (bytes_cut _ _ _ _ rest _ line begins lines some fits short over) other = absurd (other over refl)
chunk_stays at before framed bytes more ended later cause (end_bad _ _ _ _ rest _ line begins lines some fits whole no_end) other =
    end_bad at before framed (bytes ++ more) (rest ++ more) later line (line_stays bytes more line rest begins) lines some fits
    (let l = longer rest more in omega (arith, whole, l))
    (λ e. no_end (sym (end_stays (chunk_size line) rest more whole) ∙ e))
chunk_stays at before framed bytes more ended later cause (trailer _ _ _ _ rest _ line _ begins lines none breaks) other =
    trailer at before framed (bytes ++ more) (rest ++ more) later line cause (line_stays bytes more line rest begins) lines none
    (trailer_stays _ _ rest more ended later cause breaks other)

chunks_stay : (at : ℕ) (bytes more : List ℕ) (ended later : Bool) (cause : WireEnd) → BreaksChunked at bytes ended cause
    → IsOther ended cause → BreaksChunked at (bytes ++ more) later cause
chunks_stay at bytes more ended later cause b other = record {
  chunks = b.chunks;
  tail = b.tail ++ more;
  are_chunks = b.are_chunks;
  reads = ap (λ (l : List ℕ). l ++ more) b.reads ∙ append_assoc (print_chunks b.chunks) b.tail more;
  breaks = chunk_stays _ _ _ b.tail more ended later cause b.breaks other;
}

body_stays : (framing : Option Framing) (at : ℕ) (bytes more : List ℕ) (ended later : Bool) (cause : WireEnd)
    → IsSomeAnd framing (λ f. BreaksBody f at bytes ended cause) → IsOther ended cause → IsSomeAnd framing (λ f. BreaksBody f at (bytes ++ more) later cause)
body_stays None at bytes more ended later cause breaks other = absurd breaks
body_stays (Some to_end) at bytes more ended later cause breaks other = ((let l = longer bytes more in let past = breaks.0 in omega (arith, past, l)), breaks.1)
body_stays (Some (sized n)) at bytes more ended later cause breaks other = absurd (other breaks.1 breaks.2)
body_stays (Some chunked) at bytes more ended later cause breaks other = chunks_stay at bytes more ended later cause breaks other

skips_stay : (read tail more : List ℕ) (skipped : List ResponseHead) → Skips read skipped tail → Skips (read ++ more) skipped (tail ++ more)
skips_stay read tail more skipped s = record {
  each = s.each;
  within = s.within;
  reads = ap (λ (l : List ℕ). l ++ more) s.reads ∙ append_assoc (print_heads skipped) tail more;
}

pub breaks_stay : (read more : List ℕ) (ended later : Bool) (cause : WireEnd) → Breaks read ended cause → IsOther ended cause → Breaks (read ++ more) later cause
breaks_stay read more ended later cause (no_head _ tail _ skipped skips part over) other = absurd (other over refl)
breaks_stay read more ended later cause (long_head _ tail _ skipped skips part) other =
    long_head (read ++ more) (tail ++ more) later skipped (skips_stay read tail more skipped skips) (head_part_stays _ tail more passed part passed_told)
breaks_stay read more ended later cause (bad_head _ tail _ skipped n skips part none) other =
    bad_head (read ++ more) (tail ++ more) later skipped n (skips_stay read tail more skipped skips)
    (head_part_stays _ tail more (ends n) part (ends_told n))
    (subst (λ (t : List ℕ). HasNoResponse t) (sym (take-append-le n tail more (head_within _ tail n part))) none)
breaks_stay read more ended later cause (bad_fields _ rest _ skipped head _ begins fault) other =
    bad_fields (read ++ more) (rest ++ more) later skipped head cause (head_stays read rest more skipped head begins) fault
breaks_stay read more ended later cause (bad_body _ rest _ skipped head _ begins sound some breaks) other =
    bad_body (read ++ more) (rest ++ more) later skipped head cause (head_stays read rest more skipped head begins) sound some
    (body_stays (framing_of head.fields) _ rest more ended later cause breaks other)

still_open : (cause : WireEnd) → IsOther false cause
still_open cause over e = true≢false (sym over)

pub broken_stays : (request : Request) (cause : WireEnd) (read more : List ℕ) (ended : Bool) → IsBroken request cause read false → IsBroken request cause (read ++ more) ended
broken_stays request WireEnd.Fault read more ended b = absurd b
broken_stays request WireEnd.BadBody read more ended b = record {
  status = b.status;
  body = b.body;
  response = stays read more ended b.status b.body b.response;
  few = b.few;
  bad = b.bad;
}
broken_stays request WireEnd.Ended read more ended b = breaks_stay read more false ended WireEnd.Ended b (still_open WireEnd.Ended)
broken_stays request (WireEnd.Malformed at) read more ended b = breaks_stay read more false ended (WireEnd.Malformed at) b (still_open (WireEnd.Malformed at))
broken_stays request WireEnd.Encoded read more ended b = breaks_stay read more false ended WireEnd.Encoded b (still_open WireEnd.Encoded)
broken_stays request WireEnd.TooLarge read more ended (inl b) = inl (breaks_stay read more false ended WireEnd.TooLarge b (still_open WireEnd.TooLarge))
broken_stays request WireEnd.TooLarge read more ended (inr m) = inr (record {
  status = m.status;
  body = m.body;
  response = stays read more ended m.status m.body m.response;
  many = m.many;
})
