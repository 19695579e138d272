-- More bytes stand behind what was read of a response, and change nothing of it.
use Rattle.std.proofs.Common.{◌≡◌, ℕ, ◌+◌, Bool, false, List, ◌++◌, length, Option, Some, None, sym, ap, ◌∙◌, inl, inr, arith, append_assoc, true≢false}
use Rattle.std.proofs.lemmas.List.{length-append, take-append-le}
use Rattle.std.specs.Prelude.{IsSomeAnd}
use Rattle.engine_types.specs.declared.WireEnd.{WireEnd}
use Rattle.httparse.specs.Grammar.{ResponseHead, print_chunk_line, print_response, print_section}
use Rattle.response_laws.proofs.Excluding.{responses_are_one, whole_is_not_broken}
use Rattle.response_rules.specs.Chunks.{BeginsWithTrailer, IsChunked, framing_bytes, print_chunks}
use Rattle.response_rules.specs.Heads.{Framing, chunked, framing_of, sized, to_end}
use Rattle.response_rules.specs.Responses.{BeginsWithHead, Breaks, HasBody, HasBodyOf, IsResponse, print_heads}

pub head_stays : (read rest more : List ℕ) (skipped : List ResponseHead) (head : ResponseHead) → BeginsWithHead read skipped head rest → BeginsWithHead (read ++ more) skipped head (rest ++ more)
head_stays read rest more skipped head b = record {
  skips = record {
    each = b.skips.each;
    within = b.skips.within;
    reads =
        ap (λ (r : List ℕ). r ++ more) b.skips.reads ∙ append_assoc (print_heads skipped) (print_response head ++ rest) more
        ∙ ap (λ (l : List ℕ). print_heads skipped ++ l) (append_assoc (print_response head) rest more);
  };
  is_head = b.is_head;
  few = b.few;
  within = b.within;
}

trailer_stays : (framed : ℕ) (bytes more : List ℕ) → BeginsWithTrailer framed bytes → BeginsWithTrailer framed (bytes ++ more)
trailer_stays framed bytes more t = record {
  fields = t.fields;
  last = t.last;
  rest = t.rest ++ more;
  reads = (t.reads.0, ap (λ (l : List ℕ). l ++ more) t.reads.1 ∙ append_assoc (print_section t.fields t.last) t.rest more);
  few = t.few;
  within = t.within;
  framed_within = t.framed_within;
}

chunks_stay : (bytes more body : List ℕ) → IsChunked bytes body → IsChunked (bytes ++ more) body
chunks_stay bytes more body c = record {
  chunks = c.chunks;
  line = c.line;
  tail = c.tail ++ more;
  rest = c.rest ++ more;
  are_chunks = c.are_chunks;
  reads = ap (λ (l : List ℕ). l ++ more) c.reads ∙ append_assoc (print_chunks c.chunks) c.tail more;
  ends = record {
    reads = (c.ends.reads.0, ap (λ (l : List ℕ). l ++ more) c.ends.reads.1 ∙ append_assoc (print_chunk_line c.line) c.rest more);
    within = c.ends.within;
  };
  no_bytes = c.no_bytes;
  line_framed = c.line_framed;
  trailer = trailer_stays (framing_bytes c.chunks + length (print_chunk_line c.line)) c.rest more c.trailer;
  made_of = c.made_of;
}

framed_stays : (framing : Option Framing) (bytes more body : List ℕ) (ended : Bool) → IsSomeAnd framing (λ f. HasBody f bytes false body)
    → IsSomeAnd framing (λ f. HasBody f (bytes ++ more) ended body)
framed_stays None bytes more body ended h = absurd h
framed_stays (Some to_end) bytes more body ended h = absurd (true≢false (sym h.0))
framed_stays (Some (sized n)) bytes more body ended h = (
  let l = length-append bytes more in let w = h.0 in omega (arith, l, w),
  h.1 ∙ sym (take-append-le n bytes more h.0),
)
framed_stays (Some chunked) bytes more body ended h = chunks_stay bytes more body h

body_stays : (status : ℕ) (framing : Option Framing) (bytes more body : List ℕ) (ended : Bool) → HasBodyOf status framing bytes false body
    → HasBodyOf status framing (bytes ++ more) ended body
body_stays status framing bytes more body ended (inl none) = inl none
body_stays status framing bytes more body ended (inr h) = inr (h.0, framed_stays framing bytes more body ended h.1)

pub stays : (read more : List ℕ) (ended : Bool) (status : ℕ) (body : List ℕ) → IsResponse read false status body → IsResponse (read ++ more) ended status body
stays read more ended status body r = record {
  skipped = r.skipped;
  head = r.head;
  rest = r.rest ++ more;
  begins = head_stays read r.rest more r.skipped r.head r.begins;
  final = r.final;
  sound = r.sound;
  has_status = r.has_status;
  has_body = body_stays status (framing_of r.head.fields) r.rest more body ended r.has_body;
}

pub same : (read more : List ℕ) (ended : Bool) (status other : ℕ) (body other_body : List ℕ) → IsResponse read false status body
    → IsResponse (read ++ more) ended other other_body → (status ≡ other) × (body ≡ other_body)
same read more ended status other body other_body r q =
    responses_are_one (read ++ more) ended status other body other_body (stays read more ended status body r) q

pub unbroken : (read more : List ℕ) (ended : Bool) (status : ℕ) (body : List ℕ) (cause : WireEnd) → IsResponse read false status body → Breaks (read ++ more) ended cause → ⊥
unbroken read more ended status body cause r = whole_is_not_broken (read ++ more) ended status body cause (stays read more ended status body r)
