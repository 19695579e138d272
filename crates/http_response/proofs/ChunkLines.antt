-- Chunk lines: looked for while more is read, and then parsed.
use Rattle.std.proofs.Common.{◌≡◌, ℕ, ◌+◌, ◌<◌, ◌≤◌, ◌||◌, ◌^◌, Bool, List, [], ◌++◌, length, take, drop, Option, sym, ap, ◌∙◌, subst, arith, append_assoc}
use Rattle.std.proofs.Math.Seq.{drop-append_seam}
use Rattle.std.proofs.lemmas.List.{append-nil, length-append, length-take-le, take-append-drop, take-append-le}
use Rattle.std.specs.Prelude.{Err, Ok}
use Rattle.tree_base.specs.Limits.{most_head_bytes}
use Rattle.engine_types.specs.declared.WireEnd.{WireEnd}
use Rattle.httparse.specs.Grammar.{ChunkLine, HasNoChunkLine, NeverHasChunkLine, print_chunk_line}
use Rattle.httparse.specs.Spans.{IsChunkLineAt}
use Rattle.outside_api.specs.Pipes.{Talk}
use Rattle.response_rules.specs.Chunks.{BreaksChunkWithin, line_bad, line_cut, line_long}
use Rattle.response_rules.specs.Lines.{Part, chunk_line_part, ends}
use Rattle.http_heads.specs.Feeds.{HasNoFeed}
use Rattle.http_heads.specs.Searches.{IsLine, part_told}
use Rattle.http_heads.specs.declared.chunk_line_search.ChunkLineSearch.{ChunkLineSearch}
use Rattle.http_heads.specs.declared.line_search.SearchAnswer.{SearchAnswer}
use Rattle.http_response.specs.ChunksRead.{IsPastLine, ReadsSizeBy}
use Rattle.http_response.specs.Hearing.{ComesTo, Hears}
use Rattle.http_response.specs.Stocks.{FindsEndBy, IsFilled, MissesEnd, left, place}
use Rattle.http_response.specs.declared.response.ResponseEnd.{ResponseEnd}
use Rattle.http_response.specs.declared.stock.Stock.{Stock}
use Rattle.http_response.proofs.Limits.{line_within}
use Rattle.http_response.proofs.Listening.{hears_as, refuses}

-- ---- the search

pub no_feed_more : (search : ChunkLineSearch) (bytes more : List ℕ) → HasNoFeed search bytes → HasNoFeed search (bytes ++ more)
no_feed_more search bytes more h = record {
  within = let l = length-append bytes more in let w = h.within in omega (arith, l, w);
  line = subst (λ (seen : List ℕ). IsLine seen) (sym (take-append-le search.at bytes more h.within)) h.line;
}

-- the search goes on in more
pub no_feed_on : (search : ChunkLineSearch) (now new : Stock) (bytes n : List ℕ) (e : Bool) → bytes ≡ left now → IsFilled now new n e → HasNoFeed search bytes
    → HasNoFeed search (left new)
no_feed_on search now new bytes n e is filled h =
    subst (HasNoFeed search) (sym filled.left_is) (no_feed_more search (left now) n (subst (HasNoFeed search) is h))

-- what the search answers is what was asked for
pub told_line : (answer : SearchAnswer) (bytes now : List ℕ) → part_told answer ≡ chunk_line_part bytes → bytes ≡ now → chunk_line_part now ≡ part_told answer
told_line answer bytes now exact is = sym (exact ∙ ap chunk_line_part is)

-- ---- a part that wasn't found

pub not_found : {A : Type 0} (part : List ℕ → Part) (old new : Stock) (a b : Option Talk) (f g : ℕ) (end : ResponseEnd)
    (good : List ℕ → Bool → A → Type 0) (worse : List ℕ → Bool → WireEnd → Type 0) → f ≤ g → Hears a b (FindsEndBy part old new f g (Err end))
    → ((n : List ℕ) (e : Bool) (cause : WireEnd) → MissesEnd (part (left old ++ n)) (old.ended || e) cause → worse n e cause)
    → Hears a b (λ (n : List ℕ) (e : Bool). ComesTo (good n e) (worse n e) f g (Err end))
not_found part old new a b f g end good worse le h as_that =
    hears_as a b (FindsEndBy part old new f g (Err end)) (λ (n : List ℕ) (e : Bool). ComesTo (good n e) (worse n e) f g (Err end)) h
    (λ (n : List ℕ) (e : Bool) (r : FindsEndBy part old new f g (Err end) n e).
    refuses (λ (k : ℕ). IsFilled old new n e × (part (left old ++ n) ≡ ends k)) (good n e) (MissesEnd (part (left old ++ n)) (old.ended || e)) (worse n e)
    f f g end (omega arith) le r (as_that n e))

line_misses : (limit at before framed : ℕ) (bytes : List ℕ) (ended : Bool) (cause : WireEnd) → MissesEnd (chunk_line_part bytes) ended cause → BreaksChunkWithin limit at before framed bytes ended cause
line_misses limit at before framed bytes ended WireEnd.Ended m = line_cut at before framed bytes ended m.0 m.1
line_misses limit at before framed bytes ended WireEnd.TooLarge m = line_long at before framed bytes ended m
line_misses limit at before framed bytes ended (WireEnd.Malformed k) m = absurd m
line_misses limit at before framed bytes ended WireEnd.Encoded m = absurd m
line_misses limit at before framed bytes ended WireEnd.Fault m = absurd m
line_misses limit at before framed bytes ended WireEnd.BadBody m = absurd m

pub size_lost : (old new : Stock) (a b : Option Talk) (f g : ℕ) (end : ResponseEnd) → f ≤ g → Hears a b (FindsEndBy chunk_line_part old new f g (Err end))
    → Hears a b (ReadsSizeBy old new f g (Err end))
size_lost old new a b f g end le h =
    not_found chunk_line_part old new a b f g end (λ (n : List ℕ) (e : Bool). IsPastLine old new (left old ++ n) (old.ended || e))
    (λ (n : List ℕ) (e : Bool) (cause : WireEnd). (limit before framed : ℕ) → place old < 2 ^ 64 → BreaksChunkWithin limit (place old) before framed (left old ++ n) (old.ended || e) cause) le h
    (λ (n : List ℕ) (e : Bool) (cause : WireEnd) (m : MissesEnd (chunk_line_part (left old ++ n)) (old.ended || e) cause).
    λ (limit before framed : ℕ) (small : place old < 2 ^ 64). line_misses limit (place old) before framed (left old ++ n) (old.ended || e) cause m)

-- ---- the line that was found

module _ (old mid : Stock) (a b : Option Talk) (f g end : ℕ) (found : Hears a b (FindsEndBy chunk_line_part old mid f g (Ok end))) where
  abbrev tail : List ℕ
  tail = left old ++ found.more

  fits : (end ≤ most_head_bytes) × (end ≤ length tail)
  fits = line_within tail end found.comes.1

  pub end_fits : (bytes : List ℕ) → bytes ≡ left mid → end ≤ length bytes
  end_fits bytes is = subst (λ (l : List ℕ). end ≤ length l) (sym (is ∙ found.comes.0.left_is)) fits.1

  module _ (line_bytes bytes : List ℕ) (cut : bytes ≡ take end line_bytes) (is : line_bytes ≡ left mid) where
    bytes_are : bytes ≡ take end tail
    bytes_are = cut ∙ ap (take end) (is ∙ found.comes.0.left_is)

    as_long : length bytes ≡ end
    as_long = ap length bytes_are ∙ length-take-le end tail fits.1

    module _ (len size : ℕ) (line : ChunkLine) (at : IsChunkLineAt bytes len size line) where
      abbrev behind : List ℕ
      behind = drop len bytes ++ drop end tail

      tail_is : tail ≡ print_chunk_line line ++ behind
      tail_is =
          sym (take-append-drop end tail) ∙ ap (λ (l : List ℕ). l ++ drop end tail) (sym bytes_are ∙ at.reads.1)
          ∙ append_assoc (print_chunk_line line) (drop len bytes) (drop end tail)

      printed_fits : length (print_chunk_line line) ≤ end
      printed_fits =
          let l = ap length at.reads.1 in
          let m = length-append (print_chunk_line line) (drop len bytes) in
          let s = as_long in
          omega (arith, l, m, s)

      pub line_fits : len ≤ length (left mid)
      line_fits =
          let e = ap length found.comes.0.left_is in
          let p = printed_fits in
          let l = at.len_is in
          let w = fits.1 in
          omega (arith, e, p, l, w)

      pub size_read : (last : Stock) → left last ≡ drop len (left mid) → place last ≡ place mid + len → last.ended ≡ mid.ended → Hears a b (ReadsSizeBy old last f g (Ok (record { size = size; length = len })))
      size_read last left_is place_is ended_is = record {
        more = found.more;
        found_end = found.found_end;
        heard = found.heard;
        comes = record {
          line = line;
          begins = record {
            reads = (
              at.reads.0,
              tail_is
                  ∙ ap (λ (l : List ℕ). print_chunk_line line ++ l)
                  (sym (
                  left_is ∙ ap (drop len) (found.comes.0.left_is ∙ tail_is) ∙ ap (λ (n : ℕ). drop n (print_chunk_line line ++ behind)) at.len_is
                  ∙ drop-append_seam (print_chunk_line line) behind)),
            );
            within = let p = printed_fits in let w = fits.0 in omega (arith, p, w);
          };
          size_is = at.size_is;
          length_is = at.len_is;
          ended_is = ended_is ∙ found.comes.0.ended_is;
          place_is = λ (small : place old < 2 ^ 64). let p = found.comes.0.place_is small in let l = at.len_is in omega (arith, p, l, place_is);
        };
      }

    pub size_wrong : (at : ℕ) → (place mid < 2 ^ 64 → at ≡ place mid) → HasNoChunkLine bytes → (last : Stock) → Hears a b (ReadsSizeBy old last f g (Err (ResponseEnd.Wire (WireEnd.Malformed at))))
    size_wrong at there none last = record {
      more = found.more;
      found_end = found.found_end;
      heard = found.heard;
      comes = λ (limit before framed : ℕ) (small : place old < 2 ^ 64).
          let same : place mid ≡ place old = found.comes.0.place_is small in
          let is_at : at ≡ place old = there (subst (λ (p : ℕ). p < 2 ^ 64) (sym same) small) ∙ same in
          subst (λ (p : ℕ). BreaksChunkWithin limit (place old) before framed tail (old.ended || found.found_end) (WireEnd.Malformed p)) (sym is_at)
          (line_bad (place old) before framed end tail (old.ended || found.found_end) found.comes.1 (subst HasNoChunkLine bytes_are none));
    }

pub never_line : (bytes : List ℕ) → NeverHasChunkLine bytes → HasNoChunkLine bytes
never_line bytes never = subst HasNoChunkLine (append-nil bytes) (never [])
