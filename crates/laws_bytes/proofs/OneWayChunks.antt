-- A body in chunks is broken in one way at most.
use Rattle.std.proofs.Common.{◌≡◌, ◌⊎◌, ℕ, ◌+◌, ◌<◌, ◌≤◌, Bool, true, false, if◌then◌else◌, List, [], ◌∷◌, ◌++◌, length, take, drop, nat_lt, refl, sym, ap, ◌∙◌, subst, inl, inr, arith, append_assoc}
use Rattle.std.proofs.Math.Seq.{drop-append_seam, take-append_seam}
use Rattle.std.proofs.lemmas.Bool.{le-ltb, lt-ltb}
use Rattle.std.proofs.lemmas.List.{append-nil, length-append}
use Rattle.std.proofs.lemmas.List.Elements.{All-head, All-tail}
use Rattle.std.proofs.lemmas.List.Sums.{sum_by-cons}
use Rattle.std.specs.Prelude.{All}
use Rattle.tree_base.specs.Limits.{most_body_bytes, most_framing_bytes}
use Rattle.engine_types.specs.declared.WireEnd.{WireEnd}
use Rattle.httparse.proofs.ChunkLemmas.{chunk_line_unique}
use Rattle.httparse.specs.Ascii.{crlf_bytes}
use Rattle.httparse.specs.Grammar.{ChunkLine, HasNoChunkLine, chunk_size, print_chunk_line}
use Rattle.response_laws.proofs.Printed.{chunk_line_ends}
use Rattle.response_rules.specs.Chunks.{BeginsWithLine, BreaksChunk, BreaksChunked, BreaksTrailer, Chunk, IsChunk, bad, body_long, body_of, bytes_cut, cut, end_bad, framing_bytes, framing_long, line_bad, line_cut, line_long, long, past_framing, print_chunk, print_chunks, trailer}
use Rattle.response_rules.specs.Lines.{Part, chunk_line_part, ends, passed, trailer_part, unfinished}

ends_unfinished : (part : Part) (n : ℕ) → part ≡ ends n → part ≡ unfinished → ⊥
ends_unfinished part n e f = let other : ends n ≡ unfinished = sym e ∙ f in cc other

ends_passed : (part : Part) (n : ℕ) → part ≡ ends n → part ≡ passed → ⊥
ends_passed part n e f = let other : ends n ≡ passed = sym e ∙ f in cc other

pub ends_once : (part : Part) (n m : ℕ) → part ≡ ends n → part ≡ ends m → m ≡ n
ends_once part n m e f = let same : ends m ≡ ends n = sym f ∙ e in cc same

pub taken : (n : ℕ) (xs ys : List ℕ) → n ≡ length xs → take n (xs ++ ys) ≡ xs
taken n xs ys e = ap (λ (m : ℕ). take m (xs ++ ys)) e ∙ take-append_seam xs ys

-- ---- the cause, as what stands there says it

abbrev trailer_cause : ℕ → ℕ → Part → WireEnd
trailer_cause at framed unfinished = WireEnd.Ended
trailer_cause at framed passed = WireEnd.TooLarge
trailer_cause at framed (ends n) = if nat_lt most_framing_bytes (framed + n) then WireEnd.TooLarge else WireEnd.Malformed at

trailer_is : (at framed : ℕ) (bytes : List ℕ) (ended : Bool) (cause : WireEnd) → BreaksTrailer at framed bytes ended cause → cause ≡ trailer_cause at framed (trailer_part bytes)
trailer_is at framed bytes ended cause (cut _ _ _ _ part over) = ap (trailer_cause at framed) (sym part)
trailer_is at framed bytes ended cause (long _ _ _ _ part) = ap (trailer_cause at framed) (sym part)
trailer_is at framed bytes ended cause (past_framing _ _ n _ _ part past) =
    sym (ap (trailer_cause at framed) part ∙ ap (λ (v : Bool). if v then WireEnd.TooLarge else WireEnd.Malformed at) (lt-ltb most_framing_bytes (framed + n) past))
trailer_is at framed bytes ended cause (bad _ _ n _ _ part fits none) =
    sym (ap (trailer_cause at framed) part ∙ ap (λ (v : Bool). if v then WireEnd.TooLarge else WireEnd.Malformed at) (le-ltb most_framing_bytes (framed + n) fits))

abbrev chosen : Bool → Bool → Bool → Bool → ℕ → WireEnd → WireEnd
chosen framing_past body_past some short at behind =
    if framing_past then WireEnd.TooLarge
    else if body_past then WireEnd.TooLarge
    else if some then (if short then WireEnd.Ended else WireEnd.Malformed at)
    else behind

abbrev line_cause : ℕ → ℕ → ℕ → ChunkLine → List ℕ → WireEnd
line_cause at before framed line rest =
    chosen (nat_lt most_framing_bytes (framed + (length (print_chunk_line line) + 2))) (nat_lt most_body_bytes (before + chunk_size line))
    (nat_lt 0 (chunk_size line)) (nat_lt (length rest) (chunk_size line + 2)) at
    (trailer_cause (at + length (print_chunk_line line)) (framed + length (print_chunk_line line)) (trailer_part rest))

-- where a chunk line stands, the cause is the one that it and what follows say
record LineMeans (at before framed : ℕ) (tail : List ℕ) (cause : WireEnd) : Type 0 where
  line : ChunkLine
  rest : List ℕ
  begins : BeginsWithLine tail line rest
  is : cause ≡ line_cause at before framed line rest

abbrev ChunkMeans : ℕ → ℕ → ℕ → List ℕ → WireEnd → Part → Type 0
ChunkMeans at before framed tail cause unfinished = cause ≡ WireEnd.Ended
ChunkMeans at before framed tail cause passed = cause ≡ WireEnd.TooLarge
ChunkMeans at before framed tail cause (ends n) = (HasNoChunkLine (take n tail) × (cause ≡ WireEnd.Malformed at)) ⊎ LineMeans at before framed tail cause

line_part : (tail : List ℕ) (line : ChunkLine) (rest : List ℕ) → BeginsWithLine tail line rest → chunk_line_part tail ≡ ends (length (print_chunk_line line))
line_part tail line rest b = ap chunk_line_part b.reads.1 ∙ chunk_line_ends line rest b.reads.0 b.within

by_line : (at before framed : ℕ) (tail : List ℕ) (line : ChunkLine) (rest : List ℕ) (cause : WireEnd) → BeginsWithLine tail line rest
    → cause ≡ line_cause at before framed line rest → ChunkMeans at before framed tail cause (chunk_line_part tail)
by_line at before framed tail line rest cause b is =
    subst (λ (p : Part). ChunkMeans at before framed tail cause p) (sym (line_part tail line rest b)) (inr (record { line = line; rest = rest; begins = b; is = is }))

-- the line's cause, by the four tests
module _ (at before framed : ℕ) (line : ChunkLine) (rest : List ℕ) where
  abbrev behind : WireEnd
  behind = trailer_cause (at + length (print_chunk_line line)) (framed + length (print_chunk_line line)) (trailer_part rest)

  tested : (framing_past body_past some short : Bool) → nat_lt most_framing_bytes (framed + (length (print_chunk_line line) + 2)) ≡ framing_past
      → nat_lt most_body_bytes (before + chunk_size line) ≡ body_past → nat_lt 0 (chunk_size line) ≡ some → nat_lt (length rest) (chunk_size line + 2) ≡ short
      → chosen framing_past body_past some short at behind ≡ line_cause at before framed line rest
  tested framing_past body_past some short e f g h =
      let told : line_cause at before framed line rest ≡ chosen framing_past body_past some short at behind = (λ i. chosen (e i) (f i) (g i) (h i) at behind) in sym told

  body_tested : most_body_bytes < before + chunk_size line → WireEnd.TooLarge ≡ line_cause at before framed line rest
  body_tested past = by (nat_lt most_framing_bytes (framed + (length (print_chunk_line line) + 2))) refl
    where
      by : (v : Bool) → nat_lt most_framing_bytes (framed + (length (print_chunk_line line) + 2)) ≡ v → WireEnd.TooLarge ≡ line_cause at before framed line rest
      by true e =
          tested true (nat_lt most_body_bytes (before + chunk_size line)) (nat_lt 0 (chunk_size line)) (nat_lt (length rest) (chunk_size line + 2)) e refl refl refl
      by false e =
          tested false true (nat_lt 0 (chunk_size line)) (nat_lt (length rest) (chunk_size line + 2)) e (lt-ltb most_body_bytes (before + chunk_size line) past) refl refl

chunk_means : (at before framed : ℕ) (tail : List ℕ) (ended : Bool) (cause : WireEnd) → before ≤ most_body_bytes → BreaksChunk at before framed tail ended cause
    → ChunkMeans at before framed tail cause (chunk_line_part tail)
chunk_means at before framed tail ended cause fits_before (line_cut _ _ _ _ _ part over) =
    subst (λ (p : Part). ChunkMeans at before framed tail WireEnd.Ended p) (sym part) refl
chunk_means at before framed tail ended cause fits_before (line_long _ _ _ _ _ part) =
    subst (λ (p : Part). ChunkMeans at before framed tail WireEnd.TooLarge p) (sym part) refl
chunk_means at before framed tail ended cause fits_before (line_bad _ _ _ n _ _ part none) =
    subst (λ (p : Part). ChunkMeans at before framed tail (WireEnd.Malformed at) p) (sym part) (inl (none, refl))
chunk_means at before framed tail ended cause fits_before (framing_long _ _ _ _ rest _ line begins past) =
    by_line at before framed tail line rest WireEnd.TooLarge begins
    (tested at before framed line rest true (nat_lt most_body_bytes (before + chunk_size line)) (nat_lt 0 (chunk_size line)) (nat_lt (length rest) (chunk_size line + 2))
    (lt-ltb most_framing_bytes (framed + (length (print_chunk_line line) + 2)) past) refl refl refl)
chunk_means at before framed tail ended cause fits_before (body_long _ _ _ _ rest _ line begins past) =
    by_line at before framed tail line rest WireEnd.TooLarge begins (body_tested at before framed line rest past)
chunk_means at before framed tail ended cause fits_before (bytes_cut _ _ _ _ rest _ line begins lines some fits short over) =
    by_line at before framed tail line rest WireEnd.Ended begins
    (tested at before framed line rest false false true true (le-ltb most_framing_bytes (framed + (length (print_chunk_line line) + 2)) lines)
    (le-ltb most_body_bytes (before + chunk_size line) fits) (lt-ltb 0 (chunk_size line) some) (lt-ltb (length rest) (chunk_size line + 2) short))
chunk_means at before framed tail ended cause fits_before (end_bad _ _ _ _ rest _ line begins lines some fits whole other) =
    by_line at before framed tail line rest (WireEnd.Malformed at) begins
    (tested at before framed line rest false false true false (le-ltb most_framing_bytes (framed + (length (print_chunk_line line) + 2)) lines)
    (le-ltb most_body_bytes (before + chunk_size line) fits) (lt-ltb 0 (chunk_size line) some) (le-ltb (length rest) (chunk_size line + 2) whole))
chunk_means at before framed tail ended cause fits_before (trailer _ _ _ _ rest _ line _ begins lines none breaks) =
    by_line at before framed tail line rest cause begins
    (trailer_is (at + length (print_chunk_line line)) (framed + length (print_chunk_line line)) rest ended cause breaks
    ∙ tested at before framed line rest false false false (nat_lt (length rest) (chunk_size line + 2))
    (le-ltb most_framing_bytes (framed + (length (print_chunk_line line) + 2)) lines)
    (le-ltb most_body_bytes (before + chunk_size line) (omega (arith, none, fits_before))) (le-ltb 0 (chunk_size line) (omega (arith, none))) refl)

line_there : (tail : List ℕ) (line : ChunkLine) (rest : List ℕ) (n : ℕ) → BeginsWithLine tail line rest → chunk_line_part tail ≡ ends n → HasNoChunkLine (take n tail) → ⊥
line_there tail line rest n b e none =
    let one : n ≡ length (print_chunk_line line) = ends_once (chunk_line_part tail) (length (print_chunk_line line)) n (line_part tail line rest b) e in
    none line [] (b.reads.0, ap (take n) b.reads.1 ∙ taken n (print_chunk_line line) rest one ∙ sym (append-nil (print_chunk_line line)))

one_chunk_cause : (at before framed : ℕ) (tail : List ℕ) (cause other : WireEnd) (part : Part) → chunk_line_part tail ≡ part
    → ChunkMeans at before framed tail cause part → ChunkMeans at before framed tail other part → cause ≡ other
one_chunk_cause at before framed tail cause other unfinished e h k = h ∙ sym k
one_chunk_cause at before framed tail cause other passed e h k = h ∙ sym k
one_chunk_cause at before framed tail cause other (ends n) e (inl h) (inl k) = h.1 ∙ sym k.1
one_chunk_cause at before framed tail cause other (ends n) e (inl h) (inr k) = absurd (line_there tail k.line k.rest n k.begins e h.0)
one_chunk_cause at before framed tail cause other (ends n) e (inr h) (inl k) = absurd (line_there tail h.line h.rest n h.begins e k.0)
one_chunk_cause at before framed tail cause other (ends n) e (inr h) (inr k) =
    let same = chunk_line_unique tail h.line k.line h.rest k.rest h.begins.reads k.begins.reads in
    h.is ∙ (λ i. line_cause at before framed (same.0 i) (same.1 i)) ∙ sym k.is

-- ---- chunks in front of the broken one

-- one more whole chunk stands there, within the limits
record Further (before framed : ℕ) (tail : List ℕ) : Type 0 where
  chunk : Chunk
  more : List ℕ
  is : IsChunk chunk
  fits : before + length chunk.bytes ≤ most_body_bytes
  lines : framed + (length (print_chunk_line chunk.line) + 2) ≤ most_framing_bytes
  reads : tail ≡ print_chunk_line chunk.line ++ (chunk.bytes ++ (crlf_bytes ++ more))

further_at : (before other framed another : ℕ) (tail : List ℕ) → before ≡ other → framed ≡ another → Further before framed tail → Further other another tail
further_at before other framed another tail e f it = subst (λ (n : ℕ). Further n another tail) e (subst (λ (n : ℕ). Further before n tail) f it)

not_further : (at before framed : ℕ) (tail : List ℕ) (ended : Bool) (cause : WireEnd) → Further before framed tail → BreaksChunk at before framed tail ended cause → ⊥
not_further at before framed tail ended cause g b = by cause b
  where
    part : chunk_line_part tail ≡ ends (length (print_chunk_line g.chunk.line))
    part = ap chunk_line_part g.reads ∙ chunk_line_ends g.chunk.line (g.chunk.bytes ++ (crlf_bytes ++ g.more)) g.is.line g.is.within

    same : (line : ChunkLine) (rest : List ℕ) → BeginsWithLine tail line rest → (g.chunk.line ≡ line) × (g.chunk.bytes ++ (crlf_bytes ++ g.more) ≡ rest)
    same line rest begins =
        chunk_line_unique tail g.chunk.line line (g.chunk.bytes ++ (crlf_bytes ++ g.more)) rest (g.is.line, g.reads) begins.reads

    size : (line : ChunkLine) (rest : List ℕ) → BeginsWithLine tail line rest → length g.chunk.bytes ≡ chunk_size line
    size line rest begins = g.is.size ∙ ap chunk_size (same line rest begins).0

    by : (why : WireEnd) → BreaksChunk at before framed tail ended why → ⊥
    by _ (line_cut _ _ _ _ _ found over) = ends_unfinished (chunk_line_part tail) (length (print_chunk_line g.chunk.line)) part found
    by _ (line_long _ _ _ _ _ found) = ends_passed (chunk_line_part tail) (length (print_chunk_line g.chunk.line)) part found
    by _ (line_bad _ _ _ n _ _ found none) =
        line_there tail g.chunk.line (g.chunk.bytes ++ (crlf_bytes ++ g.more)) n (record { reads = (g.is.line, g.reads); within = g.is.within }) found none
    by _ (framing_long _ _ _ _ rest _ line begins past) =
        let l = ap (λ (one : ChunkLine). length (print_chunk_line one)) (same line rest begins).0 in
        let w = g.lines in
        omega (arith, l, w, past)
    by _ (body_long _ _ _ _ rest _ line begins past) = let s = size line rest begins in let f = g.fits in omega (arith, s, f, past)
    by _ (bytes_cut _ _ _ _ rest _ line begins lines some fits short over) =
        let s = size line rest begins in
        let l = ap length (same line rest begins).1 in
        let m = length-append g.chunk.bytes (crlf_bytes ++ g.more) in
        omega (arith, s, l, m, short)
    by _ (end_bad _ _ _ _ rest _ line begins lines some fits whole other) =
        other (ap (λ (t : List ℕ). take 2 (drop (chunk_size line) t)) (sym (same line rest begins).1)
        ∙ ap (λ (k : ℕ). take 2 (drop k (g.chunk.bytes ++ (crlf_bytes ++ g.more)))) (sym (size line rest begins))
        ∙ ap (take 2) (drop-append_seam g.chunk.bytes (crlf_bytes ++ g.more)))
    by _ (trailer _ _ _ _ rest _ line why begins lines none breaks) = let s = size line rest begins in let f = g.is.some in omega (arith, s, f, none)

framing_cons : (c : Chunk) (cs : List Chunk) → framing_bytes (c ∷ cs) ≡ (length (print_chunk_line c.line) + 2) + framing_bytes cs
framing_cons c cs = sum_by-cons (λ (chunk : Chunk). length (print_chunk_line chunk.line) + 2) c cs

chunk_cons : (c : Chunk) (cs : List Chunk) (rest : List ℕ) → print_chunks (c ∷ cs) ++ rest ≡ print_chunk_line c.line ++ (c.bytes ++ (crlf_bytes ++ (print_chunks cs ++ rest)))
chunk_cons c cs rest =
    append_assoc (print_chunk c) (print_chunks cs) rest
    ∙ append_assoc (print_chunk_line c.line) (c.bytes ++ crlf_bytes) (print_chunks cs ++ rest)
    ∙ ap (λ (m : List ℕ). print_chunk_line c.line ++ m) (append_assoc c.bytes crlf_bytes (print_chunks cs ++ rest))

split_same : (a b r q : List ℕ) → length a ≡ length b → a ++ r ≡ b ++ q → (a ≡ b) × (r ≡ q)
split_same a b r q l e = (
  sym (take-append_seam a r) ∙ ap (take (length a)) e ∙ taken (length a) b q l,
  sym (drop-append_seam a r) ∙ ap (drop (length a)) e ∙ ap (λ (n : ℕ). drop n (b ++ q)) l ∙ drop-append_seam b q,
)

-- chunks that stand in front of something, behind other bytes of the body and of its framing
record InFront (bytes : List ℕ) (before framed : ℕ) (chunks : List Chunk) (tail : List ℕ) : Type 0 where
  each : All IsChunk chunks
  fits : before + length (body_of chunks) ≤ most_body_bytes
  lines : framed + framing_bytes chunks ≤ most_framing_bytes
  reads : bytes ≡ print_chunks chunks ++ tail

-- two ways to read chunks in front are one, or one of them goes on with a whole chunk
abbrev AreSame : List Chunk → List ℕ → List Chunk → List ℕ → Type 0
AreSame chunks tail others other_tail =
    (length (print_chunks chunks) ≡ length (print_chunks others)) × (length (body_of chunks) ≡ length (body_of others))
    × (framing_bytes chunks ≡ framing_bytes others) × (tail ≡ other_tail)

abbrev Compared : ℕ → ℕ → List Chunk → List ℕ → List Chunk → List ℕ → Type 0
Compared before framed chunks tail others other_tail =
    AreSame chunks tail others other_tail
    ⊎ (Further (before + length (body_of chunks)) (framed + framing_bytes chunks) tail
    ⊎ Further (before + length (body_of others)) (framed + framing_bytes others) other_tail)

goes_on : (bytes : List ℕ) (before framed : ℕ) (c : Chunk) (cs : List Chunk) (tail other : List ℕ) → InFront bytes before framed (c ∷ cs) tail → bytes ≡ other
    → Further (before + length (body_of [])) (framed + framing_bytes []) other
goes_on bytes before framed c cs tail other p e =
    let is = All-head IsChunk c cs p.each in
    let w = p.fits in
    let f = p.lines in
    let l = length-append c.bytes (body_of cs) in
    let m = framing_cons c cs in
    let z : framing_bytes [] ≡ 0 = refl in
    let y : length (body_of []) ≡ 0 = refl in record {
      chunk = c;
      more = print_chunks cs ++ tail;
      is = is;
      fits = omega (arith, w, l, y);
      lines = omega (arith, f, m, z);
      reads = sym e ∙ p.reads ∙ chunk_cons c cs tail;
    }

compare : (bytes : List ℕ) (before framed : ℕ) (chunks : List Chunk) (tail : List ℕ) (others : List Chunk) (other_tail : List ℕ)
    → InFront bytes before framed chunks tail → InFront bytes before framed others other_tail → Compared before framed chunks tail others other_tail
compare bytes before framed [] tail [] other_tail p q = inl (refl, refl, refl, sym p.reads ∙ q.reads)
compare bytes before framed [] tail (d ∷ ds) other_tail p q = inr (inl (goes_on bytes before framed d ds other_tail tail q p.reads))
compare bytes before framed (c ∷ cs) tail [] other_tail p q = inr (inr (goes_on bytes before framed c cs tail other_tail p q.reads))
compare bytes before framed (c ∷ cs) tail (d ∷ ds) other_tail p q = by (compare (print_chunks cs ++ tail) (before + length c.bytes) (framed + (length (print_chunk_line c.line) + 2)) cs tail ds other_tail inner other_inner)
  where
    is : IsChunk c
    is = All-head IsChunk c cs p.each

    other_is : IsChunk d
    other_is = All-head IsChunk d ds q.each

    lines_same : (c.line ≡ d.line) × (c.bytes ++ (crlf_bytes ++ (print_chunks cs ++ tail)) ≡ d.bytes ++ (crlf_bytes ++ (print_chunks ds ++ other_tail)))
    lines_same =
        chunk_line_unique bytes c.line d.line (c.bytes ++ (crlf_bytes ++ (print_chunks cs ++ tail))) (d.bytes ++ (crlf_bytes ++ (print_chunks ds ++ other_tail)))
        (is.line, p.reads ∙ chunk_cons c cs tail) (other_is.line, q.reads ∙ chunk_cons d ds other_tail)

    line_long_same : length (print_chunk_line c.line) ≡ length (print_chunk_line d.line)
    line_long_same = ap (λ (one : ChunkLine). length (print_chunk_line one)) lines_same.0

    halves : (c.bytes ≡ d.bytes) × (crlf_bytes ++ (print_chunks cs ++ tail) ≡ crlf_bytes ++ (print_chunks ds ++ other_tail))
    halves =
        split_same c.bytes d.bytes (crlf_bytes ++ (print_chunks cs ++ tail)) (crlf_bytes ++ (print_chunks ds ++ other_tail)) (is.size ∙ ap chunk_size lines_same.0 ∙ sym other_is.size) lines_same.1

    bytes_long_same : length c.bytes ≡ length d.bytes
    bytes_long_same = ap length halves.0

    rest_same : (print_chunks cs ++ tail) ≡ (print_chunks ds ++ other_tail)
    rest_same = (split_same crlf_bytes crlf_bytes (print_chunks cs ++ tail) (print_chunks ds ++ other_tail) refl halves.1).1

    body_cons : length (body_of (c ∷ cs)) ≡ length c.bytes + length (body_of cs)
    body_cons = length-append c.bytes (body_of cs)

    other_body_cons : length (body_of (d ∷ ds)) ≡ length d.bytes + length (body_of ds)
    other_body_cons = length-append d.bytes (body_of ds)

    inner : InFront (print_chunks cs ++ tail) (before + length c.bytes) (framed + (length (print_chunk_line c.line) + 2)) cs tail
    inner = record {
      each = All-tail IsChunk c cs p.each;
      fits = let w = p.fits in let l = body_cons in omega (arith, w, l);
      lines = let w = p.lines in let l = framing_cons c cs in omega (arith, w, l);
      reads = refl;
    }

    other_inner : InFront (print_chunks cs ++ tail) (before + length c.bytes) (framed + (length (print_chunk_line c.line) + 2)) ds other_tail
    other_inner = record {
      each = All-tail IsChunk d ds q.each;
      fits = let w = q.fits in let l = other_body_cons in let s = bytes_long_same in omega (arith, w, l, s);
      lines = let w = q.lines in let l = framing_cons d ds in let s = line_long_same in omega (arith, w, l, s);
      reads = rest_same;
    }

    by : Compared (before + length c.bytes) (framed + (length (print_chunk_line c.line) + 2)) cs tail ds other_tail → Compared before framed (c ∷ cs) tail (d ∷ ds) other_tail
    by (inl s) =
        let one : length (print_chunk c) ≡ length (print_chunk d) = (λ i. length (print_chunk_line (lines_same.0 i) ++ (halves.0 i ++ crlf_bytes))) in
        let l = length-append (print_chunk c) (print_chunks cs) in
        let m = length-append (print_chunk d) (print_chunks ds) in
        let a = s.0 in
        let b = s.1 in
        let f = s.2 in
        let body = body_cons in
        let other_body = other_body_cons in
        let bytes_same = bytes_long_same in
        let framing = framing_cons c cs in
        let other_framing = framing_cons d ds in
        let line_same = line_long_same in
        inl (omega (arith, one, l, m, a), omega (arith, b, body, other_body, bytes_same), omega (arith, f, framing, other_framing, line_same), s.3)
    by (inr (inl f)) =
        inr (inl (further_at ((before + length c.bytes) + length (body_of cs)) (before + length (body_of (c ∷ cs))) ((framed + (length (print_chunk_line c.line) + 2)) + framing_bytes cs) (framed + framing_bytes (c ∷ cs)) tail
        (let l = body_cons in omega (arith, l)) (let l = framing_cons c cs in omega (arith, l)) f))
    by (inr (inr f)) =
        inr (inr (further_at ((before + length c.bytes) + length (body_of ds)) (before + length (body_of (d ∷ ds))) ((framed + (length (print_chunk_line c.line) + 2)) + framing_bytes ds) (framed + framing_bytes (d ∷ ds)) other_tail
        (let l = other_body_cons in let s = bytes_long_same in omega (arith, l, s)) (let l = framing_cons d ds in let s = line_long_same in omega (arith, l, s)) f))

moved : (at another before sooner framed less : ℕ) (tail other : List ℕ) (ended : Bool) (cause : WireEnd) → another ≡ at → sooner ≡ before → less ≡ framed → other ≡ tail
    → BreaksChunk another sooner less other ended cause → BreaksChunk at before framed tail ended cause
moved at another before sooner framed less tail other ended cause e f g h b =
    subst (λ (n : ℕ). BreaksChunk n before framed tail ended cause) e
    (subst (λ (n : ℕ). BreaksChunk another n framed tail ended cause) f
    (subst (λ (n : ℕ). BreaksChunk another sooner n tail ended cause) g
    (subst (λ (t : List ℕ). BreaksChunk another sooner less t ended cause) h b)))

in_front : (at : ℕ) (bytes : List ℕ) (ended : Bool) (cause : WireEnd) (b : BreaksChunked at bytes ended cause) → InFront bytes 0 0 b.chunks b.tail
in_front at bytes ended cause b = record {
  each = b.are_chunks.each;
  fits = let w = b.are_chunks.within in omega (arith, w);
  lines = let w = b.are_chunks.framed in omega (arith, w);
  reads = b.reads;
}

not_behind : (at : ℕ) (bytes : List ℕ) (ended : Bool) (cause : WireEnd) (b : BreaksChunked at bytes ended cause)
    → Further (0 + length (body_of b.chunks)) (0 + framing_bytes b.chunks) b.tail → ⊥
not_behind at bytes ended cause b f =
    not_further (at + length (print_chunks b.chunks)) (length (body_of b.chunks)) (framing_bytes b.chunks) b.tail ended cause
    (further_at (0 + length (body_of b.chunks)) (length (body_of b.chunks)) (0 + framing_bytes b.chunks) (framing_bytes b.chunks) b.tail (omega arith) (omega arith) f) b.breaks

pub chunks_one_way : (at : ℕ) (bytes : List ℕ) (ended : Bool) (cause other : WireEnd) → BreaksChunked at bytes ended cause → BreaksChunked at bytes ended other → cause ≡ other
chunks_one_way at bytes ended cause other b d =
    by (compare bytes 0 0 b.chunks b.tail d.chunks d.tail (in_front at bytes ended cause b) (in_front at bytes ended other d))
  where
    by : Compared 0 0 b.chunks b.tail d.chunks d.tail → cause ≡ other
    by (inl s) =
        one_chunk_cause (at + length (print_chunks b.chunks)) (length (body_of b.chunks)) (framing_bytes b.chunks) b.tail cause other (chunk_line_part b.tail) refl
        (chunk_means (at + length (print_chunks b.chunks)) (length (body_of b.chunks)) (framing_bytes b.chunks) b.tail ended cause b.are_chunks.within b.breaks)
        (chunk_means (at + length (print_chunks b.chunks)) (length (body_of b.chunks)) (framing_bytes b.chunks) b.tail ended other b.are_chunks.within
        (moved (at + length (print_chunks b.chunks)) (at + length (print_chunks d.chunks)) (length (body_of b.chunks)) (length (body_of d.chunks)) (framing_bytes b.chunks) (framing_bytes d.chunks)
        b.tail d.tail ended other (ap (λ (n : ℕ). at + n) (sym s.0)) (sym s.1) (sym s.2) (sym s.3) d.breaks))
    by (inr (inl f)) = absurd (not_behind at bytes ended cause b f)
    by (inr (inr f)) = absurd (not_behind at bytes ended other d f)
