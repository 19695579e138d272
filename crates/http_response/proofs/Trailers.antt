-- The lines behind a last chunk: looked for while more is read, and then parsed.
use Rattle.std.proofs.Common.{◌≡◌, ◌≢◌, ℕ, ◌+◌, ◌<◌, ◌≤◌, ◌||◌, ◌^◌, Bool, false, List, [], ◌++◌, length, take, drop, Option, refl, sym, ap, ◌∙◌, subst, arith, append_assoc}
use Rattle.std.proofs.lemmas.List.{append-nil, length-map, length-take-le, take-append-drop}
use Rattle.std.specs.Prelude.{Err, Ok}
use Rattle.tree_base.specs.Limits.{most_head_bytes, most_header_lines}
use Rattle.engine_types.specs.declared.WireEnd.{WireEnd}
use Rattle.httparse.specs.Grammar.{Field, HasNoSection, LineEnd, NeverHasSection, lf, print_section}
use Rattle.httparse.specs.Spans.{IsSectionAt, IsSectionWithin, SectionExceeds, header_bytes, name_and_value}
use Rattle.httparse.specs.declared.Error.{Error}
use Rattle.httparse.specs.declared.spans.HeaderSpan.{HeaderSpan}
use Rattle.outside_api.specs.Pipes.{Talk}
use Rattle.response_rules.specs.Chunks.{BeginsWithTrailer, BreaksTrailer, bad, cut, long, past_framing}
use Rattle.response_rules.specs.Lines.{Part, ends, filled_lines, passed, trailer_part, unfinished, whole_lines}
use Rattle.http_heads.specs.Searches.{HasFollowed, part_told, searched_part}
use Rattle.http_heads.specs.declared.line_search.LineSearch.{LineSearch}
use Rattle.http_heads.specs.declared.line_search.SearchAnswer.{SearchAnswer}
use Rattle.http_response.specs.ChunksRead.{LeavesRoom, ReadsTrailerBy}
use Rattle.http_response.specs.Hearing.{Hears}
use Rattle.http_response.specs.Stocks.{FindsEndBy, IsFilled, MissesEnd, left, place}
use Rattle.http_response.specs.declared.response.ResponseEnd.{ResponseEnd}
use Rattle.http_response.specs.declared.stock.Stock.{Stock}
use Rattle.http_response.proofs.ChunkLines.{not_found}
use Rattle.http_response.proofs.Limits.{EndsWithin, ends_within, open_within}
use Rattle.http_response.proofs.Overflowing.{section_over}
use Rattle.http_response.proofs.Searching.{followed_more}

-- ---- the search

-- the search goes on in more
pub trailer_followed_on : (search : LineSearch) (now new : Stock) (bytes n : List ℕ) (e : Bool) → bytes ≡ left now → IsFilled now new n e → HasFollowed search bytes
    → HasFollowed search (left new)
trailer_followed_on search now new bytes n e is filled h =
    subst (HasFollowed search) (sym filled.left_is) (followed_more search (left now) n (subst (HasFollowed search) is h))

-- what the search answers is what was asked for
pub told_trailer : (answer : SearchAnswer) (leading : Bool) (bytes now : List ℕ) → part_told answer ≡ searched_part leading 65536 100 bytes → leading ≡ false → bytes ≡ now
    → trailer_part now ≡ part_told answer
told_trailer answer leading bytes now exact behind is =
    sym (exact ∙ ap (λ (l : Bool). searched_part l 65536 100 bytes) behind ∙ ap (λ (b : List ℕ). searched_part false 65536 100 b) is)

pub trailer_open : (bytes : List ℕ) → trailer_part bytes ≡ unfinished → length bytes ≤ 65536
trailer_open bytes going = open_within most_head_bytes most_header_lines 0 (filled_lines (whole_lines bytes)) bytes going

trailer_misses : (at framed : ℕ) (bytes : List ℕ) (ended : Bool) (cause : WireEnd) → MissesEnd (trailer_part bytes) ended cause → BreaksTrailer at framed bytes ended cause
trailer_misses at framed bytes ended WireEnd.Ended m = cut at framed bytes ended m.0 m.1
trailer_misses at framed bytes ended WireEnd.TooLarge m = long at framed bytes ended m
trailer_misses at framed bytes ended (WireEnd.Malformed k) m = absurd m
trailer_misses at framed bytes ended WireEnd.Encoded m = absurd m
trailer_misses at framed bytes ended WireEnd.Fault m = absurd m
trailer_misses at framed bytes ended WireEnd.BadBody m = absurd m

pub trailer_lost : (room : ℕ) (old new : Stock) (a b : Option Talk) (f g : ℕ) (end : ResponseEnd) → f ≤ g → Hears a b (FindsEndBy trailer_part old new f g (Err end))
    → Hears a b (ReadsTrailerBy room old new f g (Err end))
trailer_lost room old new a b f g end le h =
    not_found trailer_part old new a b f g end
    (λ (n : List ℕ) (e : Bool) (done : Unit {0}). ((framed : ℕ) → LeavesRoom framed room → BeginsWithTrailer framed (left old ++ n)) × (new.ended ≡ (old.ended || e)))
    (λ (n : List ℕ) (e : Bool) (cause : WireEnd). (framed : ℕ) → LeavesRoom framed room → place old < 2 ^ 64 → BreaksTrailer (place old) framed (left old ++ n) (old.ended || e) cause) le h
    (λ (n : List ℕ) (e : Bool) (cause : WireEnd) (m : MissesEnd (trailer_part (left old ++ n)) (old.ended || e) cause).
    λ (framed : ℕ) (leaves : LeavesRoom framed room) (small : place old < 2 ^ 64). trailer_misses (place old) framed (left old ++ n) (old.ended || e) cause m)

-- ---- the lines that were found

module _ (old mid : Stock) (a b : Option Talk) (f g end : ℕ) (found : Hears a b (FindsEndBy trailer_part old mid f g (Ok end))) where
  abbrev tail : List ℕ
  tail = left old ++ found.more

  ending : EndsWithin most_head_bytes most_header_lines (filled_lines (whole_lines tail)) end tail
  ending = ends_within most_head_bytes most_header_lines 0 (filled_lines (whole_lines tail)) tail end found.comes.1

  -- they are past the room that is left
  pub trailer_over : (room : ℕ) → room < end → Hears a b (ReadsTrailerBy room old mid f g (Err (ResponseEnd.Wire WireEnd.TooLarge)))
  trailer_over room over = record {
    more = found.more;
    found_end = found.found_end;
    heard = found.heard;
    comes = λ (framed : ℕ) (leaves : LeavesRoom framed room) (small : place old < 2 ^ 64).
        past_framing (place old) framed end tail (old.ended || found.found_end) found.comes.1 (omega (arith, leaves, over));
  }

  pub trailer_end_fits : (bytes : List ℕ) → bytes ≡ left mid → end ≤ length bytes
  trailer_end_fits bytes is = subst (λ (l : List ℕ). end ≤ length l) (sym (is ∙ found.comes.0.left_is)) ending.within

  module _ (line_bytes bytes : List ℕ) (is_front : bytes ≡ take end line_bytes) (is : line_bytes ≡ left mid) where
    bytes_are : bytes ≡ take end tail
    bytes_are = is_front ∙ ap (take end) (is ∙ found.comes.0.left_is)

    as_long : length bytes ≡ end
    as_long = ap length bytes_are ∙ length-take-le end tail ending.within

    module _ (headers : List HeaderSpan) (len count : ℕ) (fields : List Field) (last : LineEnd) (at : IsSectionAt bytes 0 headers len count fields last)
        (inside : IsSectionWithin bytes headers len count) (room : length headers ≡ most_header_lines) where
      pub trailer_fits : len ≤ length (left mid)
      trailer_fits =
          let e = ap length found.comes.0.left_is in
          let l = inside.len_fits in
          let s = as_long in
          let w = ending.within in
          omega (arith, e, l, s, w)

      few : length fields ≤ most_header_lines
      few =
          let many : length fields ≡ length (take count headers) =
          sym (length-map fields name_and_value) ∙ sym (ap length at.fields_are) ∙ length-map (take count headers) (header_bytes bytes) in
          let short : length (take count headers) ≡ count = length-take-le count headers inside.count_fits in
          let fit = inside.count_fits in
          omega (arith, many, short, fit, room)

      pub trailer_read : (space : ℕ) → end ≤ space → (new : Stock) → new.ended ≡ mid.ended → Hears a b (ReadsTrailerBy space old new f g (Ok tt))
      trailer_read space fits new ended_is = record {
        more = found.more;
        found_end = found.found_end;
        heard = found.heard;
        comes = (
          λ (framed : ℕ) (leaves : LeavesRoom framed space). record {
            fields = fields;
            last = last;
            rest = drop len bytes ++ drop end tail;
            reads = (
              at.reads.0,
              sym (take-append-drop end tail) ∙ ap (λ (l : List ℕ). l ++ drop end tail) (sym bytes_are ∙ at.reads.1)
                  ∙ append_assoc (print_section fields last) (drop len bytes) (drop end tail),
            );
            few = few;
            within =
                let l = at.len_is in
                let i = inside.len_fits in
                let s = as_long in
                let w = ending.small in
                omega (arith, l, i, s, w);
            framed_within =
                let l = at.len_is in
                let i = inside.len_fits in
                let s = as_long in
                omega (arith, l, i, s, fits, leaves);
          },
          ended_is ∙ found.comes.0.ended_is,
        );
      }

    pub trailer_wrong : (room : ℕ) → end ≤ room → (at : ℕ) → (place mid < 2 ^ 64 → at ≡ place mid) → HasNoSection bytes → (last : Stock)
        → Hears a b (ReadsTrailerBy room old last f g (Err (ResponseEnd.Wire (WireEnd.Malformed at))))
    trailer_wrong room fits at there none last = record {
      more = found.more;
      found_end = found.found_end;
      heard = found.heard;
      comes = λ (framed : ℕ) (leaves : LeavesRoom framed room) (small : place old < 2 ^ 64).
          let same : place mid ≡ place old = found.comes.0.place_is small in
          let is_at : at ≡ place old = there (subst (λ (p : ℕ). p < 2 ^ 64) (sym same) small) ∙ same in
          subst (λ (p : ℕ). BreaksTrailer (place old) framed tail (old.ended || found.found_end) (WireEnd.Malformed p)) (sym is_at)
          (bad (place old) framed end tail (old.ended || found.found_end) found.comes.1 (omega (arith, leaves, fits)) (subst HasNoSection bytes_are none));
    }

    -- more lines than there is room for never come
    too_many : SectionExceeds most_header_lines bytes → ⊥
    too_many (front, rest, split, fields, reads, many) =
        let whole : tail ≡ (front ++ rest) ++ drop end tail = sym (take-append-drop end tail) ∙ ap (λ (l : List ℕ). l ++ drop end tail) (sym bytes_are ∙ split) in
        ends_passed (trailer_part tail) end found.comes.1 (ap trailer_part whole ∙ section_over fields lf front rest (drop end tail) reads.0 many reads.1)
      where
        ends_passed : (part : Part) (n : ℕ) → part ≡ ends n → part ≡ passed → ⊥
        ends_passed part n e f = let other : ends n ≡ passed = sym e ∙ f in cc other

    never : NeverHasSection bytes → HasNoSection bytes
    never h = subst HasNoSection (append-nil bytes) (h [])

    other : (e : Error) → (e ≢ Error.TooManyHeaders) → (e ≢ Error.TooManyHeaders → NeverHasSection bytes) → HasNoSection bytes
    other e fails h = never (h fails)

    -- what the parser refuses are no such lines
    pub trailer_refused : (e : Error) → (e ≢ Error.TooManyHeaders → NeverHasSection bytes) → (e ≡ Error.TooManyHeaders → SectionExceeds most_header_lines bytes) → HasNoSection bytes
    trailer_refused Error.TooManyHeaders h many = absurd (too_many (many refl))
    trailer_refused Error.HeaderName h many = other Error.HeaderName (λ (e : Error.HeaderName ≡ Error.TooManyHeaders). cc e) h
    trailer_refused Error.HeaderValue h many = other Error.HeaderValue (λ (e : Error.HeaderValue ≡ Error.TooManyHeaders). cc e) h
    trailer_refused Error.NewLine h many = other Error.NewLine (λ (e : Error.NewLine ≡ Error.TooManyHeaders). cc e) h
    trailer_refused Error.Status h many = other Error.Status (λ (e : Error.Status ≡ Error.TooManyHeaders). cc e) h
    trailer_refused Error.Token h many = other Error.Token (λ (e : Error.Token ≡ Error.TooManyHeaders). cc e) h
    trailer_refused Error.Version h many = other Error.Version (λ (e : Error.Version ≡ Error.TooManyHeaders). cc e) h
