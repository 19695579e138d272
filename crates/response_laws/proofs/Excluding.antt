-- Bytes that begin with a whole response aren't broken, and begin with no other response.
use Rattle.std.proofs.Common.{◌≡◌, ◌⊎◌, ℕ, ◌+◌, ◌<◌, ◌≤◌, Bool, true, false, ◌||◌, ◌==◌, List, [], ◌∷◌, ◌++◌, length, take, drop, Option, Some, None, refl, sym, ap, ◌∙◌, subst, inl, inr, arith, append_assoc, true≢false}
use Rattle.std.proofs.Math.Seq.{drop-append_seam, take-append_seam}
use Rattle.std.proofs.lemmas.List.{append-nil, length-append}
use Rattle.std.proofs.lemmas.List.Elements.{All-head, All-tail}
use Rattle.std.proofs.lemmas.List.Sums.{sum_by-cons}
use Rattle.std.specs.List.{flat_map}
use Rattle.std.specs.Prelude.{All, IsFalse, IsSomeAnd, IsTrue}
use Rattle.tree_base.specs.Limits.{most_body_bytes, most_framing_bytes, most_head_bytes, most_header_lines}
use Rattle.engine_types.specs.declared.Reply.{Reply}
use Rattle.engine_types.specs.declared.Request.{Request}
use Rattle.engine_types.specs.declared.WireEnd.{WireEnd}
use Rattle.httparse.proofs.ChunkLemmas.{chunk_line_unique}
use Rattle.httparse.proofs.GrammarLemmas.{response_unique, section_unique}
use Rattle.httparse.specs.Ascii.{crlf_bytes}
use Rattle.httparse.specs.Grammar.{ChunkLine, HasNoChunkLine, HasNoResponse, HasNoSection, IsChunkLine, IsResponseHead, ResponseHead, chunk_size, print_chunk_line, print_response, print_section, status_code}
use Rattle.response_rules.specs.Broken.{HasBadBody, HasManyValues, IsBroken, IsReply}
use Rattle.response_rules.specs.Chunks.{AreChunks, BeginsWithLine, BeginsWithTrailer, BreaksChunk, BreaksChunked, BreaksTrailer, Chunk, IsChunk, IsChunked, bad, body_long, body_of, bytes_cut, cut, end_bad, framing_bytes, framing_long, line_bad, line_cut, line_long, long, past_framing, print_chunk, print_chunks, trailer}
use Rattle.response_rules.specs.Heads.{Framing, chunked, fault_by, framing_of, has_no_body, head_fault, is_encoded, is_interim, sized, to_end}
use Rattle.response_rules.specs.Lines.{Part, chunk_line_part, ends, head_part, passed, trailer_part, unfinished}
use Rattle.response_rules.specs.Replies.{reply_of}
use Rattle.response_rules.specs.Values.{has_many_values}
use Rattle.response_rules.specs.Responses.{BeginsWithHead, Breaks, BreaksBody, HasBody, HasBodyOf, IsResponse, IsSkipped, Skips, bad_body, bad_fields, bad_head, long_head, no_head, print_heads}
use Rattle.response_laws.proofs.Printed.{chunk_line_ends, head_ends, trailer_ends}

-- a part that ends isn't one that passed its limit or is unfinished, and it ends in one place
ends_unfinished : (part : Part) (n : ℕ) → part ≡ ends n → part ≡ unfinished → ⊥
ends_unfinished part n e f = let other : ends n ≡ unfinished = sym e ∙ f in cc other

ends_passed : (part : Part) (n : ℕ) → part ≡ ends n → part ≡ passed → ⊥
ends_passed part n e f = let other : ends n ≡ passed = sym e ∙ f in cc other

ends_once : (part : Part) (n m : ℕ) → part ≡ ends n → part ≡ ends m → m ≡ n
ends_once part n m e f = let same : ends m ≡ ends n = sym f ∙ e in cc same

taken : (n : ℕ) (xs ys : List ℕ) → n ≡ length xs → take n (xs ++ ys) ≡ xs
taken n xs ys e = ap (λ (m : ℕ). take m (xs ++ ys)) e ∙ take-append_seam xs ys

-- ---- heads

-- behind skipped heads, bytes that begin with a whole response go on with one of its heads
record Goes (read : List ℕ) (first : ResponseHead) (rest : List ℕ) (before : ℕ) (tail : List ℕ) : Type 0 where
  head : ResponseHead
  more : List ℕ
  is_head : IsResponseHead head
  few : length head.fields ≤ most_header_lines
  within : before + length (print_response head) ≤ most_head_bytes
  sound : head_fault 0 head.fields ≡ None
  reads : tail ≡ print_response head ++ more
  which : IsTrue (is_interim (status_code head)) ⊎ ((head ≡ first) × (more ≡ rest))

-- a response, by its parts: the heads that are skipped, its head, and what stands behind
record Parts (read : List ℕ) (before : ℕ) (skipped : List ResponseHead) (first : ResponseHead) (rest : List ℕ) : Type 0 where
  each : All IsSkipped skipped
  is_head : IsResponseHead first
  few : length first.fields ≤ most_header_lines
  within : before + (length (print_heads skipped) + length (print_response first)) ≤ most_head_bytes
  final : IsFalse (is_interim (status_code first))
  sound : head_fault 0 first.fields ≡ None
  reads : read ≡ print_heads skipped ++ (print_response first ++ rest)

heads_cons : (h : ResponseHead) (hs : List ResponseHead) (rest : List ℕ) → print_heads (h ∷ hs) ++ rest ≡ print_response h ++ (print_heads hs ++ rest)
heads_cons h hs rest = append_assoc (print_response h) (print_heads hs) rest

heads_length : (h : ResponseHead) (hs : List ResponseHead) → length (print_heads (h ∷ hs)) ≡ length (print_response h) + length (print_heads hs)
heads_length h hs = length-append (print_response h) (print_heads hs)

walk : (read : List ℕ) (before : ℕ) (skipped : List ResponseHead) (first : ResponseHead) (rest : List ℕ) (others : List ResponseHead) (tail : List ℕ)
    → Parts read before skipped first rest → All IsSkipped others → read ≡ print_heads others ++ tail → Goes read first rest (before + length (print_heads others)) tail
walk read before [] first rest [] tail p others e = record {
  head = first;
  more = rest;
  is_head = p.is_head;
  few = p.few;
  within = let w = p.within in omega (arith, w);
  sound = p.sound;
  reads = sym e ∙ p.reads;
  which = inr (refl, refl);
}
walk read before (s ∷ skipped) first rest [] tail p others e =
    let is = All-head IsSkipped s skipped p.each in record {
      head = s;
      more = print_heads skipped ++ (print_response first ++ rest);
      is_head = is.is_head;
      few = is.few;
      within = let w = p.within in let l = heads_length s skipped in omega (arith, w, l);
      sound = is.sound;
      reads = sym e ∙ p.reads ∙ heads_cons s skipped (print_response first ++ rest);
      which = inl is.interim;
    }
walk read before [] first rest (o ∷ others) tail p skips e =
    let is = All-head IsSkipped o others skips in
    let same = response_unique read first o rest (print_heads others ++ tail) (p.is_head, p.reads) (is.is_head, e ∙ heads_cons o others tail) in
    absurd (true≢false (sym is.interim ∙ ap (λ (h : ResponseHead). is_interim (status_code h)) (sym same.0) ∙ p.final))
walk read before (s ∷ skipped) first rest (o ∷ others) tail p skips e =
    let is = All-head IsSkipped s skipped p.each in
    let other = All-head IsSkipped o others skips in
    let behind = print_heads skipped ++ (print_response first ++ rest) in
    let same = response_unique read s o behind (print_heads others ++ tail) (is.is_head, p.reads ∙ heads_cons s skipped (print_response first ++ rest)) (other.is_head, e ∙ heads_cons o others tail) in
    let inner : Parts behind (before + length (print_response s)) skipped first rest = record {
      each = All-tail IsSkipped s skipped p.each;
      is_head = p.is_head;
      few = p.few;
      within = let w = p.within in let l = heads_length s skipped in omega (arith, w, l);
      final = p.final;
      sound = p.sound;
      reads = refl;
    } in
    let on = walk behind (before + length (print_response s)) skipped first rest others tail inner (All-tail IsSkipped o others skips) same.1 in
    let l : length (print_response s) ≡ length (print_response o) = ap (λ (h : ResponseHead). length (print_response h)) same.0 in
    let m = heads_length o others in record {
      head = on.head;
      more = on.more;
      is_head = on.is_head;
      few = on.few;
      within = let w = on.within in omega (arith, w, l, m);
      sound = on.sound;
      reads = on.reads;
      which = on.which;
    }

module _ (read : List ℕ) (ended : Bool) (status : ℕ) (body : List ℕ) (r : IsResponse read ended status body) where
  parts : Parts read 0 r.skipped r.head r.rest
  parts = record {
    each = r.begins.skips.each;
    is_head = r.begins.is_head;
    few = r.begins.few;
    within = let w = r.begins.within in omega (arith, w);
    final = r.final;
    sound = r.sound;
    reads = r.begins.skips.reads;
  }

  goes : (others : List ResponseHead) (tail : List ℕ) → Skips read others tail → Goes read r.head r.rest (length (print_heads others)) tail
  goes others tail skips =
      let none : 0 + length (print_heads others) ≡ length (print_heads others) = omega arith in
      subst (λ (n : ℕ). Goes read r.head r.rest n tail) none (walk read 0 r.skipped r.head r.rest others tail parts skips.each skips.reads)

  part_is : (others : List ResponseHead) (tail : List ℕ) (g : Goes read r.head r.rest (length (print_heads others)) tail)
      → head_part (length (print_heads others)) tail ≡ ends (length (print_response g.head))
  part_is others tail g = ap (head_part (length (print_heads others))) g.reads ∙ head_ends g.head g.more g.is_head (length (print_heads others)) g.few g.within

  -- a head that stands behind skipped ones is the one with which the response goes on
  same_head : (others : List ResponseHead) (head : ResponseHead) (rest : List ℕ) → BeginsWithHead read others head rest
      → (g : Goes read r.head r.rest (length (print_heads others)) (print_response head ++ rest)) → (g.head ≡ head) × (g.more ≡ rest)
  same_head others head rest begins g =
      response_unique (print_response head ++ rest) g.head head g.more rest (g.is_head, g.reads) (begins.is_head, refl)

-- a head without fault has none at any place
sound_at : (at : ℕ) (f : Option Framing) (encoded : Bool) → fault_by 0 f encoded ≡ None → fault_by at f encoded ≡ None
sound_at at None encoded e = absurd (cc e)
sound_at at (Some f) true e = absurd (cc e)
sound_at at (Some to_end) false e = refl
sound_at at (Some (sized n)) false e = e
sound_at at (Some chunked) false e = refl

interim_has_no_body : (status : ℕ) → IsTrue (is_interim status) → IsTrue (has_no_body status)
interim_has_no_body status e = ap (λ (b : Bool). b || (status == 204 || status == 304)) e

-- ---- lines after a last chunk

trailer_whole : (at framed : ℕ) (bytes : List ℕ) (ended : Bool) (cause : WireEnd) → BeginsWithTrailer framed bytes → BreaksTrailer at framed bytes ended cause → ⊥
trailer_whole at framed bytes ended cause t b = by cause b
  where
    part : trailer_part bytes ≡ ends (length (print_section t.fields t.last))
    part = ap trailer_part t.reads.1 ∙ trailer_ends t.fields t.last t.rest t.reads.0 t.few t.within

    by : (why : WireEnd) → BreaksTrailer at framed bytes ended why → ⊥
    by _ (cut _ _ _ _ found_part over) = ends_unfinished (trailer_part bytes) (length (print_section t.fields t.last)) part found_part
    by _ (long _ _ _ _ found_part) = ends_passed (trailer_part bytes) (length (print_section t.fields t.last)) part found_part
    by _ (past_framing _ _ n _ _ found_part past) =
        let one : n ≡ length (print_section t.fields t.last) = ends_once (trailer_part bytes) (length (print_section t.fields t.last)) n part found_part in
        let w = t.framed_within in
        omega (arith, one, w, past)
    by _ (bad _ _ n _ _ found_part fits none) =
        let one : n ≡ length (print_section t.fields t.last) = ends_once (trailer_part bytes) (length (print_section t.fields t.last)) n part found_part in
        let text : take n bytes ≡ print_section t.fields t.last ++ [] =
        ap (take n) t.reads.1 ∙ taken n (print_section t.fields t.last) t.rest one ∙ sym (append-nil (print_section t.fields t.last)) in
        none t.fields t.last [] (t.reads.0, text)

-- ---- chunks

-- the framing of a chunk, and of those behind it
framing_cons : (c : Chunk) (cs : List Chunk) → framing_bytes (c ∷ cs) ≡ (length (print_chunk_line c.line) + 2) + framing_bytes cs
framing_cons c cs = sum_by-cons (λ (chunk : Chunk). length (print_chunk_line chunk.line) + 2) c cs

-- what stands behind a chunk line of a whole body, behind other bytes of it and of its framing: the line's bytes, or it is the last
abbrev IsBehind : List ℕ → List ℕ → ℕ → ChunkLine → List ℕ → Type 0
IsBehind body before framed line more =
    ((0 < chunk_size line) × (length before + chunk_size line ≤ most_body_bytes)
    × ((bytes : List ℕ) × (rest : List ℕ) × (length bytes ≡ chunk_size line) × (more ≡ bytes ++ (crlf_bytes ++ rest))))
    ⊎ ((chunk_size line ≡ 0) × (body ≡ before) × BeginsWithTrailer (framed + length (print_chunk_line line)) more)

-- behind whole chunks, bytes that begin with a whole body go on with one of its chunk lines
record GoesOn (body : List ℕ) (before : List ℕ) (framed : ℕ) (tail : List ℕ) : Type 0 where
  line : ChunkLine
  more : List ℕ
  is_line : IsChunkLine line
  within : length (print_chunk_line line) ≤ most_head_bytes
  line_framed : framed + (length (print_chunk_line line) + 2) ≤ most_framing_bytes
  reads : tail ≡ print_chunk_line line ++ more
  which : IsBehind body before framed line more

-- a body in chunks, by its parts, behind other bytes of it and of its framing
record Pieces (bytes : List ℕ) (before : List ℕ) (framed : ℕ) (chunks : List Chunk) (line : ChunkLine) (rest : List ℕ) : Type 0 where
  each : All IsChunk chunks
  within : length before + length (body_of chunks) ≤ most_body_bytes
  is_line : IsChunkLine line
  line_within : length (print_chunk_line line) ≤ most_head_bytes
  no_bytes : chunk_size line ≡ 0
  line_framed : (framed + framing_bytes chunks) + (length (print_chunk_line line) + 2) ≤ most_framing_bytes
  trailer_is : BeginsWithTrailer ((framed + framing_bytes chunks) + length (print_chunk_line line)) rest
  reads : bytes ≡ print_chunks chunks ++ (print_chunk_line line ++ rest)

chunk_cons : (c : Chunk) (cs : List Chunk) (rest : List ℕ) → print_chunks (c ∷ cs) ++ rest ≡ print_chunk_line c.line ++ (c.bytes ++ (crlf_bytes ++ (print_chunks cs ++ rest)))
chunk_cons c cs rest =
    append_assoc (print_chunk c) (print_chunks cs) rest
    ∙ append_assoc (print_chunk_line c.line) (c.bytes ++ crlf_bytes) (print_chunks cs ++ rest)
    ∙ ap (λ (m : List ℕ). print_chunk_line c.line ++ m) (append_assoc c.bytes crlf_bytes (print_chunks cs ++ rest))

-- two beginnings of one length are one
split_same : (a b r q : List ℕ) → length a ≡ length b → a ++ r ≡ b ++ q → (a ≡ b) × (r ≡ q)
split_same a b r q l e = (
  sym (take-append_seam a r) ∙ ap (take (length a)) e ∙ taken (length a) b q l,
  sym (drop-append_seam a r) ∙ ap (drop (length a)) e ∙ ap (λ (n : ℕ). drop n (b ++ q)) l ∙ drop-append_seam b q,
)

walk_chunks : (bytes before : List ℕ) (framed : ℕ) (chunks : List Chunk) (line : ChunkLine) (rest : List ℕ) (others : List Chunk) (tail : List ℕ)
    → Pieces bytes before framed chunks line rest → All IsChunk others → bytes ≡ print_chunks others ++ tail
    → GoesOn (before ++ body_of chunks) (before ++ body_of others) (framed + framing_bytes others) tail
walk_chunks bytes before framed [] line rest [] tail p others e = record {
  line = line;
  more = rest;
  is_line = p.is_line;
  within = p.line_within;
  line_framed = p.line_framed;
  reads = sym e ∙ p.reads;
  which = inr (p.no_bytes, refl, p.trailer_is);
}
walk_chunks bytes before framed (c ∷ chunks) line rest [] tail p others e =
    let is = All-head IsChunk c chunks p.each in
    let behind = print_chunks chunks ++ (print_chunk_line line ++ rest) in record {
      line = c.line;
      more = c.bytes ++ (crlf_bytes ++ behind);
      is_line = is.line;
      within = is.within;
      line_framed =
          let w = p.line_framed in
          let l = framing_cons c chunks in
          let z : framing_bytes [] ≡ 0 = refl in
          omega (arith, w, l, z);
      reads = sym e ∙ p.reads ∙ chunk_cons c chunks (print_chunk_line line ++ rest);
      which = inl (
        subst (λ (n : ℕ). 0 < n) is.size is.some,
        (let w = p.within in let s = is.size in let l = length-append c.bytes (body_of chunks) in let n = length-append before (body_of []) in omega (arith, w, s, l, n)),
        (c.bytes, behind, is.size, refl),
      );
    }
walk_chunks bytes before framed [] line rest (o ∷ others) tail p chunks e =
    let is = All-head IsChunk o others chunks in
    let same = chunk_line_unique bytes line o.line rest (o.bytes ++ (crlf_bytes ++ (print_chunks others ++ tail))) (p.is_line, p.reads) (is.line, e ∙ chunk_cons o others tail) in
    let none : chunk_size o.line ≡ 0 = ap chunk_size (sym same.0) ∙ p.no_bytes in
    absurd (let s = is.some in let z = is.size in omega (arith, s, z, none))
walk_chunks bytes before framed (c ∷ chunks) line rest (o ∷ others) tail p more e =
    let is = All-head IsChunk c chunks p.each in
    let other = All-head IsChunk o others more in
    let behind = print_chunks chunks ++ (print_chunk_line line ++ rest) in
    let beyond = print_chunks others ++ tail in
    let same = chunk_line_unique bytes c.line o.line (c.bytes ++ (crlf_bytes ++ behind)) (o.bytes ++ (crlf_bytes ++ beyond))
    (is.line, p.reads ∙ chunk_cons c chunks (print_chunk_line line ++ rest)) (other.line, e ∙ chunk_cons o others tail) in
    let as_long : length c.bytes ≡ length o.bytes = is.size ∙ ap chunk_size same.0 ∙ sym other.size in
    let halves = split_same c.bytes o.bytes (crlf_bytes ++ behind) (crlf_bytes ++ beyond) as_long same.1 in
    let ends_same = split_same crlf_bytes crlf_bytes behind beyond refl halves.1 in
    let past = framed + (length (print_chunk_line c.line) + 2) in
    let front : framed + framing_bytes (c ∷ chunks) ≡ past + framing_bytes chunks = (let l = framing_cons c chunks in omega (arith, l)) in
    let other_front : past + framing_bytes others ≡ framed + framing_bytes (o ∷ others) =
    (let l = framing_cons o others in let k = ap (λ (one : ChunkLine). length (print_chunk_line one)) same.0 in omega (arith, l, k)) in
    let inner : Pieces behind (before ++ c.bytes) past chunks line rest = record {
      each = All-tail IsChunk c chunks p.each;
      within = let w = p.within in let l = length-append c.bytes (body_of chunks) in let n = length-append before c.bytes in omega (arith, w, l, n);
      is_line = p.is_line;
      line_within = p.line_within;
      no_bytes = p.no_bytes;
      line_framed = let w = p.line_framed in omega (arith, w, front);
      trailer_is = subst (λ (n : ℕ). BeginsWithTrailer (n + length (print_chunk_line line)) rest) front p.trailer_is;
      reads = refl;
    } in
    let on : GoesOn ((before ++ c.bytes) ++ body_of chunks) ((before ++ c.bytes) ++ body_of others) (past + framing_bytes others) tail =
    walk_chunks behind (before ++ c.bytes) past chunks line rest others tail inner (All-tail IsChunk o others more) ends_same.1 in
    subst (λ (n : ℕ). GoesOn (before ++ body_of (c ∷ chunks)) (before ++ body_of (o ∷ others)) n tail) other_front
    (subst (λ (b : List ℕ). GoesOn (before ++ body_of (c ∷ chunks)) b (past + framing_bytes others) tail)
    (append_assoc before c.bytes (body_of others) ∙ ap (λ (m : List ℕ). before ++ (m ++ body_of others)) halves.0)
    (subst (λ (b : List ℕ). GoesOn b ((before ++ c.bytes) ++ body_of others) (past + framing_bytes others) tail) (append_assoc before c.bytes (body_of chunks)) on))

module _ (bytes body : List ℕ) (w : IsChunked bytes body) where
  none_before : framing_bytes w.chunks ≡ 0 + framing_bytes w.chunks
  none_before = omega arith

  pieces : Pieces bytes [] 0 w.chunks w.line w.rest
  pieces = record {
    each = w.are_chunks.each;
    within = let k = w.are_chunks.within in omega (arith, k);
    is_line = w.ends.reads.0;
    line_within = w.ends.within;
    no_bytes = w.no_bytes;
    line_framed = let k = w.line_framed in omega (arith, k);
    trailer_is = subst (λ (n : ℕ). BeginsWithTrailer (n + length (print_chunk_line w.line)) w.rest) none_before w.trailer;
    reads = w.reads ∙ ap (λ (t : List ℕ). print_chunks w.chunks ++ t) w.ends.reads.1;
  }

  goes_on : (others : List Chunk) (tail : List ℕ) → All IsChunk others → bytes ≡ print_chunks others ++ tail → GoesOn (body_of w.chunks) (body_of others) (framing_bytes others) tail
  goes_on others tail each e =
      let none : 0 + framing_bytes others ≡ framing_bytes others = omega arith in
      subst (λ (n : ℕ). GoesOn (body_of w.chunks) (body_of others) n tail) none (walk_chunks bytes [] 0 w.chunks w.line w.rest others tail pieces each e)

  chunk_whole : (at : ℕ) (others : List Chunk) (tail : List ℕ) (ended : Bool) (cause : WireEnd) → AreChunks others → GoesOn (body_of w.chunks) (body_of others) (framing_bytes others) tail
      → BreaksChunk at (length (body_of others)) (framing_bytes others) tail ended cause → ⊥
  chunk_whole at others tail ended cause are g b = by cause b
    where
      part : chunk_line_part tail ≡ ends (length (print_chunk_line g.line))
      part = ap chunk_line_part g.reads ∙ chunk_line_ends g.line g.more g.is_line g.within

      same : (line : ChunkLine) (rest : List ℕ) → BeginsWithLine tail line rest → (g.line ≡ line) × (g.more ≡ rest)
      same line rest begins = chunk_line_unique tail g.line line g.more rest (g.is_line, g.reads) begins.reads

      by : (why : WireEnd) → BreaksChunk at (length (body_of others)) (framing_bytes others) tail ended why → ⊥
      by _ (line_cut _ _ _ _ _ found_part over) = ends_unfinished (chunk_line_part tail) (length (print_chunk_line g.line)) part found_part
      by _ (line_long _ _ _ _ _ found_part) = ends_passed (chunk_line_part tail) (length (print_chunk_line g.line)) part found_part
      by _ (line_bad _ _ _ n _ _ found_part none) =
          let one : n ≡ length (print_chunk_line g.line) = ends_once (chunk_line_part tail) (length (print_chunk_line g.line)) n part found_part in
          let text : take n tail ≡ print_chunk_line g.line ++ [] = ap (take n) g.reads ∙ taken n (print_chunk_line g.line) g.more one ∙ sym (append-nil (print_chunk_line g.line)) in
          none g.line [] (g.is_line, text)
      by _ (framing_long _ _ _ _ rest _ line begins past) =
          let l = ap (λ (one : ChunkLine). length (print_chunk_line one)) (same line rest begins).0 in
          let w = g.line_framed in
          omega (arith, l, w, past)
      by _ (body_long _ _ _ _ rest _ line begins past) = at_limit g.which
        where
          size : chunk_size g.line ≡ chunk_size line
          size = ap chunk_size (same line rest begins).0

          at_limit : IsBehind (body_of w.chunks) (body_of others) (framing_bytes others) g.line g.more → ⊥
          at_limit (inl h) = let f = h.1 in let s = size in omega (arith, f, s, past)
          at_limit (inr h) = let n = h.0 in let s = size in let k = are.within in omega (arith, n, s, k, past)
      by _ (bytes_cut _ _ _ _ rest _ line begins lines some fits short over) = at_end g.which
        where
          found : (g.line ≡ line) × (g.more ≡ rest)
          found = same line rest begins

          size : chunk_size g.line ≡ chunk_size line
          size = ap chunk_size found.0

          at_end : IsBehind (body_of w.chunks) (body_of others) (framing_bytes others) g.line g.more → ⊥
          at_end (inl h) =
              let whole : rest ≡ h.2.0 ++ (crlf_bytes ++ h.2.1) = sym found.1 ∙ h.2.3 in
              let l = ap length whole in let m = length-append h.2.0 (crlf_bytes ++ h.2.1) in let k = h.2.2 in let s = size in omega (arith, l, m, k, s, short)
          at_end (inr h) = let n = h.0 in let s = size in omega (arith, n, s, some)
      by _ (end_bad _ _ _ _ rest _ line begins lines some fits whole other) = at_end g.which
        where
          found : (g.line ≡ line) × (g.more ≡ rest)
          found = same line rest begins

          size : chunk_size g.line ≡ chunk_size line
          size = ap chunk_size found.0

          at_end : IsBehind (body_of w.chunks) (body_of others) (framing_bytes others) g.line g.more → ⊥
          at_end (inl h) =
              let behind : rest ≡ h.2.0 ++ (crlf_bytes ++ h.2.1) = sym found.1 ∙ h.2.3 in
              let n : chunk_size line ≡ length h.2.0 = sym size ∙ sym h.2.2 in
              other (ap (λ (t : List ℕ). take 2 (drop (chunk_size line) t)) behind
              ∙ ap (λ (k : ℕ). take 2 (drop k (h.2.0 ++ (crlf_bytes ++ h.2.1)))) n
              ∙ ap (take 2) (drop-append_seam h.2.0 (crlf_bytes ++ h.2.1)))
          at_end (inr h) = let n = h.0 in let s = size in omega (arith, n, s, some)
      by _ (trailer _ _ _ _ rest _ line why begins lines none breaks) = at_end g.which
        where
          found : (g.line ≡ line) × (g.more ≡ rest)
          found = same line rest begins

          size : chunk_size g.line ≡ chunk_size line
          size = ap chunk_size found.0

          at_end : IsBehind (body_of w.chunks) (body_of others) (framing_bytes others) g.line g.more → ⊥
          at_end (inl h) = let f = h.0 in let s = size in omega (arith, f, s, none)
          at_end (inr h) =
              trailer_whole _ _ rest ended why
              (subst (λ (one : ChunkLine). BeginsWithTrailer (framing_bytes others + length (print_chunk_line one)) rest) found.0
              (subst (λ (t : List ℕ). BeginsWithTrailer (framing_bytes others + length (print_chunk_line g.line)) t) found.1 h.2)) breaks

  chunks_whole : (at : ℕ) (ended : Bool) (cause : WireEnd) → BreaksChunked at bytes ended cause → ⊥
  chunks_whole at ended cause b =
      chunk_whole (at + length (print_chunks b.chunks)) b.chunks b.tail ended cause b.are_chunks (goes_on b.chunks b.tail b.are_chunks.each b.reads) b.breaks

  chunks_one : (more : List ℕ) → IsChunked bytes more → body ≡ more
  chunks_one more v = at g.which
    where
      g : GoesOn (body_of w.chunks) (body_of v.chunks) (framing_bytes v.chunks) v.tail
      g = goes_on v.chunks v.tail v.are_chunks.each v.reads

      same : (g.line ≡ v.line) × (g.more ≡ v.rest)
      same = chunk_line_unique v.tail g.line v.line g.more v.rest (g.is_line, g.reads) v.ends.reads

      at : IsBehind (body_of w.chunks) (body_of v.chunks) (framing_bytes v.chunks) g.line g.more → body ≡ more
      at (inl h) = absurd (let f = h.0 in let n = v.no_bytes in let s = ap chunk_size same.0 in omega (arith, f, n, s))
      at (inr h) = w.made_of ∙ h.1 ∙ sym v.made_of

-- ---- bodies

body_whole : (f : Framing) (at : ℕ) (bytes : List ℕ) (ended : Bool) (body : List ℕ) (cause : WireEnd) → HasBody f bytes ended body → BreaksBody f at bytes ended cause → ⊥
body_whole to_end at bytes ended body cause has breaks = let h = has.1 in let b = breaks.0 in omega (arith, h, b)
body_whole (sized n) at bytes ended body cause has breaks = let h = has.0 in let b = breaks.0 in omega (arith, h, b)
body_whole chunked at bytes ended body cause has breaks = chunks_whole bytes body has at ended cause breaks

body_one : (f : Framing) (bytes : List ℕ) (ended : Bool) (body more : List ℕ) → HasBody f bytes ended body → HasBody f bytes ended more → body ≡ more
body_one to_end bytes ended body more has other = has.2 ∙ sym other.2
body_one (sized n) bytes ended body more has other = has.1 ∙ sym other.1
body_one chunked bytes ended body more has other = chunks_one bytes body has more other

bodies_whole : (status at : ℕ) (framing : Option Framing) (bytes : List ℕ) (ended : Bool) (body : List ℕ) (cause : WireEnd) → IsFalse (has_no_body status)
    → HasBodyOf status framing bytes ended body → IsSomeAnd framing (λ f. BreaksBody f at bytes ended cause) → ⊥
bodies_whole status at framing bytes ended body cause some (inl h) breaks = true≢false (sym h.0 ∙ some)
bodies_whole status at None bytes ended body cause some (inr h) breaks = breaks
bodies_whole status at (Some f) bytes ended body cause some (inr h) breaks = body_whole f at bytes ended body cause h.1 breaks

bodies_one : (status : ℕ) (framing : Option Framing) (bytes : List ℕ) (ended : Bool) (body more : List ℕ) → HasBodyOf status framing bytes ended body
    → HasBodyOf status framing bytes ended more → body ≡ more
bodies_one status framing bytes ended body more (inl h) (inl k) = h.1 ∙ sym k.1
bodies_one status framing bytes ended body more (inl h) (inr k) = absurd (true≢false (sym h.0 ∙ k.0))
bodies_one status framing bytes ended body more (inr h) (inl k) = absurd (true≢false (sym k.0 ∙ h.0))
bodies_one status None bytes ended body more (inr h) (inr k) = absurd h.1
bodies_one status (Some f) bytes ended body more (inr h) (inr k) = body_one f bytes ended body more h.1 k.1

-- ---- responses

pub whole_is_not_broken : (read : List ℕ) (ended : Bool) (status : ℕ) (body : List ℕ) (cause : WireEnd)
    → IsResponse read ended status body → Breaks read ended cause → ⊥
whole_is_not_broken read ended status body cause r (no_head _ tail _ skipped skips found_part over) =
    let g = goes read ended status body r skipped tail skips in
    ends_unfinished (head_part (length (print_heads skipped)) tail) (length (print_response g.head)) (part_is read ended status body r skipped tail g) found_part
whole_is_not_broken read ended status body cause r (long_head _ tail _ skipped skips found_part) =
    let g = goes read ended status body r skipped tail skips in
    ends_passed (head_part (length (print_heads skipped)) tail) (length (print_response g.head)) (part_is read ended status body r skipped tail g) found_part
whole_is_not_broken read ended status body cause r (bad_head _ tail _ skipped n skips found_part none) =
    let g = goes read ended status body r skipped tail skips in
    let one : n ≡ length (print_response g.head) =
    ends_once (head_part (length (print_heads skipped)) tail) (length (print_response g.head)) n (part_is read ended status body r skipped tail g) found_part in
    let text : take n tail ≡ print_response g.head ++ [] = ap (take n) g.reads ∙ taken n (print_response g.head) g.more one ∙ sym (append-nil (print_response g.head)) in
    none g.head [] (g.is_head, text)
whole_is_not_broken read ended status body cause r (bad_fields _ rest _ skipped head _ begins fault) =
    let g = goes read ended status body r skipped (print_response head ++ rest) begins.skips in
    let same = same_head read ended status body r skipped head rest begins g in
    let sound : head_fault 0 head.fields ≡ None = subst (λ (h : ResponseHead). head_fault 0 h.fields ≡ None) same.0 g.sound in
    let none = sound_at (length (print_heads skipped)) (framing_of head.fields) (is_encoded head.fields) sound in
    let other : None ≡ Some cause = sym none ∙ fault in cc other
whole_is_not_broken read ended status body cause r (bad_body _ rest _ skipped head _ begins sound some breaks) = at g.which
  where
    g : Goes read r.head r.rest (length (print_heads skipped)) (print_response head ++ rest)
    g = goes read ended status body r skipped (print_response head ++ rest) begins.skips

    same : (g.head ≡ head) × (g.more ≡ rest)
    same = same_head read ended status body r skipped head rest begins g

    at : IsTrue (is_interim (status_code g.head)) ⊎ ((g.head ≡ r.head) × (g.more ≡ r.rest)) → ⊥
    at (inl interim) = true≢false (sym (interim_has_no_body (status_code head) (subst (λ (h : ResponseHead). IsTrue (is_interim (status_code h))) same.0 interim)) ∙ some)
    at (inr own) =
        let head_is : r.head ≡ head = sym own.0 ∙ same.0 in
        let rest_is : r.rest ≡ rest = sym own.1 ∙ same.1 in
        let has : HasBodyOf (status_code head) (framing_of head.fields) rest ended body =
        subst (λ (t : List ℕ). HasBodyOf (status_code head) (framing_of head.fields) t ended body) rest_is
        (subst (λ (h : ResponseHead). HasBodyOf (status_code h) (framing_of h.fields) r.rest ended body) head_is
        (subst (λ (n : ℕ). HasBodyOf n (framing_of r.head.fields) r.rest ended body) r.has_status r.has_body)) in
        bodies_whole (status_code head) _ (framing_of head.fields) rest ended body cause some has breaks

pub responses_are_one : (read : List ℕ) (ended : Bool) (status other : ℕ) (body more : List ℕ)
    → IsResponse read ended status body → IsResponse read ended other more → (status ≡ other) × (body ≡ more)
responses_are_one read ended status other body more r q = at g.which
  where
    g : Goes read r.head r.rest (length (print_heads q.skipped)) (print_response q.head ++ q.rest)
    g = goes read ended status body r q.skipped (print_response q.head ++ q.rest) q.begins.skips

    same : (g.head ≡ q.head) × (g.more ≡ q.rest)
    same = same_head read ended status body r q.skipped q.head q.rest q.begins g

    at : IsTrue (is_interim (status_code g.head)) ⊎ ((g.head ≡ r.head) × (g.more ≡ r.rest)) → (status ≡ other) × (body ≡ more)
    at (inl interim) = absurd (true≢false (sym (subst (λ (h : ResponseHead). IsTrue (is_interim (status_code h))) same.0 interim) ∙ q.final))
    at (inr own) =
        let head_is : r.head ≡ q.head = sym own.0 ∙ same.0 in
        let rest_is : r.rest ≡ q.rest = sym own.1 ∙ same.1 in
        let status_is : status ≡ other = r.has_status ∙ ap status_code head_is ∙ sym q.has_status in
        let has : HasBodyOf other (framing_of q.head.fields) q.rest ended body =
        subst (λ (t : List ℕ). HasBodyOf other (framing_of q.head.fields) t ended body) rest_is
        (subst (λ (h : ResponseHead). HasBodyOf other (framing_of h.fields) r.rest ended body) head_is
        (subst (λ (n : ℕ). HasBodyOf n (framing_of r.head.fields) r.rest ended body) status_is r.has_body)) in
        (status_is, bodies_one other (framing_of q.head.fields) q.rest ended body more has q.has_body)

-- a body hasn't more values than the limit and no more
pub not_few : (request : Request) (read : List ℕ) (ended : Bool) (status : ℕ) (body : List ℕ) → IsResponse read ended status body
    → IsFalse (has_many_values request status body) → HasManyValues request read ended → ⊥
not_few request read ended status body r few m =
    let same = responses_are_one read ended status m.status body m.body r m.response in
    let still : has_many_values request m.status m.body ≡ false =
    subst (λ (b : List ℕ). has_many_values request m.status b ≡ false) same.1 (subst (λ (n : ℕ). has_many_values request n body ≡ false) same.0 few) in
    true≢false (sym m.many ∙ still)

pub replies_are_not_broken : (request : Request) (read : List ℕ) (ended : Bool) (reply : Reply) (cause : WireEnd)
    → IsReply request read ended reply → IsBroken request cause read ended → ⊥
replies_are_not_broken request read ended reply WireEnd.Fault is broken = broken
replies_are_not_broken request read ended reply WireEnd.BadBody is broken =
    let same = responses_are_one read ended is.status broken.status is.body broken.body is.response broken.response in
    let gives : reply_of request broken.status broken.body ≡ Some reply =
    subst (λ (b : List ℕ). reply_of request broken.status b ≡ Some reply) same.1 (subst (λ (n : ℕ). reply_of request n is.body ≡ Some reply) same.0 is.gives) in
    let other : None ≡ Some reply = sym broken.bad ∙ gives in cc other
replies_are_not_broken request read ended reply WireEnd.Ended is broken = whole_is_not_broken read ended is.status is.body WireEnd.Ended is.response broken
replies_are_not_broken request read ended reply (WireEnd.Malformed at) is broken = whole_is_not_broken read ended is.status is.body (WireEnd.Malformed at) is.response broken
replies_are_not_broken request read ended reply WireEnd.Encoded is broken = whole_is_not_broken read ended is.status is.body WireEnd.Encoded is.response broken
replies_are_not_broken request read ended reply WireEnd.TooLarge is (inl broken) = whole_is_not_broken read ended is.status is.body WireEnd.TooLarge is.response broken
replies_are_not_broken request read ended reply WireEnd.TooLarge is (inr many) = not_few request read ended is.status is.body is.response is.few many
