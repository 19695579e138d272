-- A body in chunks, of which a piece is given (RFC 9112, section 7.1).
use Rattle.std.proofs.Common.{◌≡◌, ◌≢◌, ℕ, ◌+◌, ◌-◌, ◌<◌, ◌≤◌, ◌||◌, ◌^◌, min, Bool, true, false, List, [], ◌∷◌, ◌++◌, length, take, drop, Option, refl, sym, ap, ◌∙◌, subst, arith, append_assoc}
use Rattle.std.proofs.Math.Seq.{drop-append_seam}
use Rattle.std.proofs.lemmas.List.{append-nil, length-append, take-append-drop}
use Rattle.std.proofs.lemmas.List.Elements.{All-push}
use Rattle.std.proofs.lemmas.List.Sums.{sum_by_push}
use Rattle.std.specs.Prelude.{Err, Ok}
use Rattle.tree_base.specs.Limits.{most_framing_bytes}
use Rattle.engine_types.specs.declared.WireEnd.{WireEnd}
use Rattle.httparse.specs.Ascii.{crlf_bytes}
use Rattle.httparse.specs.Grammar.{ChunkLine, chunk_size, print_chunk_line}
use Rattle.outside_api.specs.Pipes.{Talk}
use Rattle.response_rules.specs.Chunks.{BeginsWithLine, BeginsWithTrailer, BreaksChunkWithin, BreaksTrailer, Chunk, IsChunk, body_long, body_of, bytes_cut, end_bad, framing_bytes, framing_long, print_chunk, print_chunks, trailer}
use Rattle.response_rules.specs.Heads.{chunked}
use Rattle.response_rules.specs.Responses.{BreaksWithin, IsResponseWithin}
use Rattle.http_response.specs.Bodies.{ContinuesWithin, IsInChunk, IsOpenWithin}
use Rattle.http_response.specs.ChunksRead.{BreaksEnd, IsPastEnd, IsPastLine, LeavesRoom, ReadsEndBy, ReadsSizeBy, ReadsTrailerBy}
use Rattle.http_response.specs.Hearing.{Hears}
use Rattle.http_response.specs.Stocks.{ReadiesBy, left, place}
use Rattle.http_response.specs.declared.body.OpenBody.{OpenBody}
use Rattle.http_response.specs.declared.body.Rest.{Rest}
use Rattle.http_response.specs.declared.chunks.LineRead.{LineRead}
use Rattle.http_response.specs.declared.response.ResponseEnd.{ResponseEnd}
use Rattle.http_response.specs.declared.stock.Stock.{Stock}
use Rattle.http_response.proofs.Framed.{IsFramed, body_place, framed_breaks, framed_more, framed_of, framed_open, framed_whole, place_of, place_small}
use Rattle.http_response.proofs.Giving.{IsPiece, continues_on, piece_ended, piece_length, piece_placed, piece_refused}
use Rattle.http_response.proofs.PlainBodies.{all_ended}
use Rattle.http_response.proofs.Within.{chunks_length}

-- what is left begins behind these bytes
placed_past : (old new : Stock) (read more front : List ℕ) → left old ++ more ≡ front ++ left new → place new ≡ place old + length front
    → place old + length (left old) ≡ length read → place new + length (left new) ≡ length (read ++ more)
placed_past old new read more front e past placed =
    let l = ap length e in
    let a = length-append (left old) more in
    let b = length-append front (left new) in
    let c = length-append read more in
    omega (arith, l, a, b, c, past, placed)

ended_past : (old ended : Bool) (new d : Bool) → new ≡ (old || d) → old ≡ ended → new ≡ (ended || d)
ended_past old ended new d e is = e ∙ ap (λ (v : Bool). v || d) is

-- ---- at a chunk

module _ (limit : ℕ) (body : OpenBody) (room lines : ℕ) (read given : List ℕ) (ended : Bool) (o : IsOpenWithin limit (record body { rest = Rest.Chunks room lines }) read ended given) where
  abbrev chunks : List Chunk
  chunks = o.so_far.2.0

  at_framed : IsFramed limit read body.status chunked o.skipped o.head o.rest
  at_framed = framed_of limit (record body { rest = Rest.Chunks room lines }) read ended given chunked o refl o.so_far.0

  at_front_small : length (print_chunks chunks) ≤ 2 ^ 63
  at_front_small =
      let l = chunks_length chunks in
      let w = o.so_far.2.1.within in
      let f = o.so_far.2.1.framed in
      let s = o.small in
      omega (arith, l, w, f, s)

  at_place : place body.stock ≡ body_place o.skipped o.head + length (print_chunks chunks)
  at_place = place_of limit read body.status chunked o.skipped o.head o.rest at_framed body.stock (print_chunks chunks) o.so_far.2.2 (o.place_is refl)

  pub at_small : place body.stock < 2 ^ 64
  at_small = place_small limit read body.status chunked o.skipped o.head o.rest at_framed body.stock (print_chunks chunks) o.so_far.2.2 (o.place_is refl) at_front_small

  tail_there : (m : List ℕ) → o.rest ++ m ≡ print_chunks chunks ++ (left body.stock ++ m)
  tail_there m = ap (λ (r : List ℕ). r ++ m) o.so_far.2.2 ∙ append_assoc (print_chunks chunks) (left body.stock) m

  -- a broken chunk breaks the response
  at_breaks : (m : List ℕ) (d : Bool) (cause : WireEnd) → BreaksChunkWithin limit (place body.stock) (length (body_of chunks)) (framing_bytes chunks) (left body.stock ++ m) (ended || d) cause
      → BreaksWithin limit (read ++ m) (ended || d) cause
  at_breaks m d cause broken =
      framed_breaks limit (read ++ m) body.status chunked o.skipped o.head (o.rest ++ m) (framed_more limit read body.status chunked o.skipped o.head o.rest at_framed m) (ended || d) cause
      (record {
        chunks = chunks;
        tail = left body.stock ++ m;
        are_chunks = o.so_far.2.1;
        reads = tail_there m;
        breaks = subst (λ (p : ℕ). BreaksChunkWithin limit p (length (body_of chunks)) (framing_bytes chunks) (left body.stock ++ m) (ended || d) cause) at_place broken;
      })

  -- its line isn't there
  pub size_refused : (mid : Stock) (after : OpenBody) (out : List ℕ) (a b : Option Talk) (f g : ℕ) (end : ResponseEnd) → f ≤ g → Hears a b (ReadsSizeBy body.stock mid f g (Err end))
      → ContinuesWithin limit after read ended given out out a b f g (Err end)
  size_refused mid after out a b f g end le h =
      piece_refused limit (λ (m : List ℕ) (d : Bool). IsPastLine body.stock mid (left body.stock ++ m) (body.stock.ended || d))
      (λ (m : List ℕ) (d : Bool) (cause : WireEnd). (within before framed : ℕ) → place body.stock < 2 ^ 64 → BreaksChunkWithin within (place body.stock) before framed (left body.stock ++ m) (body.stock.ended || d) cause)
      after read ended given out a b f g end le h
      (λ (m : List ℕ) (d : Bool) (cause : WireEnd)
      (broken : (within before framed : ℕ) → place body.stock < 2 ^ 64 → BreaksChunkWithin within (place body.stock) before framed (left body.stock ++ m) (body.stock.ended || d) cause).
      at_breaks m d cause
      (subst (λ (v : Bool). BreaksChunkWithin limit (place body.stock) (length (body_of chunks)) (framing_bytes chunks) (left body.stock ++ m) (v || d) cause) o.ended_is
      (broken limit (length (body_of chunks)) (framing_bytes chunks) at_small)))

  module _ (mid : Stock) (a b : Option Talk) (f g : ℕ) (found : LineRead) (h : Hears a b (ReadsSizeBy body.stock mid f g (Ok found))) where
    abbrev line : ChunkLine
    line = h.comes.line

    abbrev size : ℕ
    size = found.size

    -- the line with a line end behind it, as it is counted
    pub counted : (n : ℕ) → n ≡ min (found.length + 2) (2 ^ 64 - 1) → n ≡ length (print_chunk_line line) + 2
    counted n e =
        let l = h.comes.length_is in
        let w = h.comes.begins.within in
        omega (arith, e, l, w)

    -- with the line, the framing passes its limit
    pub framing_over : (after : OpenBody) (out : List ℕ) (n : ℕ) → n ≡ length (print_chunk_line line) + 2 → lines < n
        → ContinuesWithin limit after read ended given out out a b f g (Err (ResponseEnd.Wire WireEnd.TooLarge))
    framing_over after out n is over = record {
      more = h.more;
      now_ended = h.found_end;
      heard = h.heard;
      gives = (
        refl,
        at_breaks h.more h.found_end WireEnd.TooLarge
            (framing_long (place body.stock) (length (body_of chunks)) (framing_bytes chunks) (left body.stock ++ h.more) (left mid) (ended || h.found_end) line h.comes.begins
            (let w = o.so_far.2.4 in omega (arith, w, is, over))),
      );
    }

    -- with its bytes, the body passes its limit
    pub chunk_over : (after : OpenBody) (out : List ℕ) → room < size → ContinuesWithin limit after read ended given out out a b f g (Err (ResponseEnd.Wire WireEnd.TooLarge))
    chunk_over after out over = record {
      more = h.more;
      now_ended = h.found_end;
      heard = h.heard;
      gives = (
        refl,
        at_breaks h.more h.found_end WireEnd.TooLarge
            (body_long (place body.stock) (length (body_of chunks)) (framing_bytes chunks) (left body.stock ++ h.more) (left mid) (ended || h.found_end) line h.comes.begins
            (let e = ap length o.so_far.2.3 in let w = o.so_far.1 in let s = h.comes.size_is in omega (arith, e, w, s, over))),
      );
    }

    -- the bytes of the chunk come
    pub into_chunk : (at : ℕ) → (place body.stock < 2 ^ 64 → at ≡ place body.stock) → 0 < size → size ≤ room → (n : ℕ) → n ≡ length (print_chunk_line line) + 2 → n ≤ lines
        → IsOpenWithin limit (record body { stock = mid; rest = Rest.Chunk size at (room - size) (lines - n) }) (read ++ h.more) (ended || h.found_end) given
    into_chunk at there some within n is fits =
        framed_open limit (read ++ h.more) body.status chunked o.skipped o.head (o.rest ++ h.more)
        (framed_more limit read body.status chunked o.skipped o.head o.rest at_framed h.more)
        (record body { stock = mid; rest = Rest.Chunk size at (room - size) (lines - n) }) (ended || h.found_end) given refl
        (ended_past body.stock.ended ended mid.ended h.found_end h.comes.ended_is o.ended_is) refl
        (placed_past body.stock mid read h.more (print_chunk_line line) h.comes.begins.reads.1 (h.comes.place_is at_small) (o.place_is refl)) (
          o.so_far.0,
          record {
            chunks = chunks;
            line = line;
            part = [];
            are_chunks = o.so_far.2.1;
            begins = record { reads = (h.comes.begins.reads.0, refl); within = h.comes.begins.within };
            reads = tail_there h.more ∙ ap (λ (l : List ℕ). print_chunks chunks ++ l) h.comes.begins.reads.1;
            given_is = o.so_far.2.3 ∙ sym (append-nil (body_of chunks));
            size = let s = h.comes.size_is in omega (arith, s);
            some = let s = h.comes.size_is in omega (arith, s, some);
            room_is = let e = ap length o.so_far.2.3 in let w = o.so_far.1 in let s = h.comes.size_is in omega (arith, e, w, s, within);
            lines_are = let w = o.so_far.2.4 in omega (arith, w, is, fits);
            place_is = there at_small ∙ at_place;
          },
        )

    -- it is the last: the lines behind it come
    abbrev framed_then : (m : List ℕ) → IsFramed limit ((read ++ h.more) ++ m) body.status chunked o.skipped o.head ((o.rest ++ h.more) ++ m)
    framed_then m =
        framed_more limit (read ++ h.more) body.status chunked o.skipped o.head (o.rest ++ h.more)
        (framed_more limit read body.status chunked o.skipped o.head o.rest at_framed h.more) m

    line_then : (m : List ℕ) → BeginsWithLine ((left body.stock ++ h.more) ++ m) line (left mid ++ m)
    line_then m = record {
      reads = (
        h.comes.begins.reads.0,
        ap (λ (l : List ℕ). l ++ m) h.comes.begins.reads.1 ∙ append_assoc (print_chunk_line line) (left mid) m,
      );
      within = h.comes.begins.within;
    }

    tail_then : (m : List ℕ) → (o.rest ++ h.more) ++ m ≡ print_chunks chunks ++ ((left body.stock ++ h.more) ++ m)
    tail_then m = ap (λ (r : List ℕ). r ++ m) (tail_there h.more) ∙ append_assoc (print_chunks chunks) (left body.stock ++ h.more) m

    last_place : place mid ≡ place body.stock + length (print_chunk_line line)
    last_place = h.comes.place_is at_small

    last_small : place mid < 2 ^ 64
    last_small =
        let p = at_place in
        let l = last_place in
        let w = h.comes.begins.within in
        let s = at_front_small in
        let r = o.begins.within in
        omega (arith, p, l, w, s, r)

    mid_ended : mid.ended ≡ (ended || h.found_end)
    mid_ended = ended_past body.stock.ended ended mid.ended h.found_end h.comes.ended_is o.ended_is

    module _ (last : Stock) (after : OpenBody) (out : List ℕ) (c : Option Talk) (k : ℕ) (none : size ≡ 0) (low : f ≤ g) (high : g ≤ k)
        (fits : length (print_chunk_line line) + 2 ≤ lines) where
      line_fits : framing_bytes chunks + (length (print_chunk_line line) + 2) ≤ most_framing_bytes
      line_fits = let w = o.so_far.2.4 in omega (arith, w, fits)

      -- behind it there is room for the lines
      leaves : LeavesRoom (framing_bytes chunks + length (print_chunk_line line)) (lines - found.length)
      leaves = let w = o.so_far.2.4 in let l = h.comes.length_is in omega (arith, w, l, fits)

      no_bytes : chunk_size line ≡ 0
      no_bytes = sym h.comes.size_is ∙ none

      pub trailer_refuses : (end : ResponseEnd) → Hears b c (ReadsTrailerBy (lines - found.length) mid last g k (Err end)) → ContinuesWithin limit after read ended given out out a c f k (Err end)
      trailer_refuses end second =
          continues_on limit after read h.more ended h.found_end given out out a b c f g k (Err end) low high h.heard
          (piece_refused limit
          (λ (m : List ℕ) (d : Bool) (done : Unit {0}). ((framed : ℕ) → LeavesRoom framed (lines - found.length) → BeginsWithTrailer framed (left mid ++ m)) × (last.ended ≡ (mid.ended || d)))
          (λ (m : List ℕ) (d : Bool) (cause : WireEnd). (framed : ℕ) → LeavesRoom framed (lines - found.length) → place mid < 2 ^ 64 → BreaksTrailer (place mid) framed (left mid ++ m) (mid.ended || d) cause)
          after (read ++ h.more) (ended || h.found_end) given out b c g k end high second
          (λ (m : List ℕ) (d : Bool) (cause : WireEnd)
          (broken : (framed : ℕ) → LeavesRoom framed (lines - found.length) → place mid < 2 ^ 64 → BreaksTrailer (place mid) framed (left mid ++ m) (mid.ended || d) cause).
          framed_breaks limit ((read ++ h.more) ++ m) body.status chunked o.skipped o.head ((o.rest ++ h.more) ++ m) (framed_then m) ((ended || h.found_end) || d) cause
          (record {
            chunks = chunks;
            tail = (left body.stock ++ h.more) ++ m;
            are_chunks = o.so_far.2.1;
            reads = tail_then m;
            breaks =
                subst (λ (p : ℕ). BreaksChunkWithin limit p (length (body_of chunks)) (framing_bytes chunks) ((left body.stock ++ h.more) ++ m) ((ended || h.found_end) || d) cause) at_place
                (trailer (place body.stock) (length (body_of chunks)) (framing_bytes chunks) ((left body.stock ++ h.more) ++ m) (left mid ++ m) ((ended || h.found_end) || d) line cause
                (line_then m) line_fits no_bytes
                (subst (λ (p : ℕ). BreaksTrailer p (framing_bytes chunks + length (print_chunk_line line)) (left mid ++ m) ((ended || h.found_end) || d) cause) last_place
                (subst (λ (v : Bool). BreaksTrailer (place mid) (framing_bytes chunks + length (print_chunk_line line)) (left mid ++ m) (v || d) cause) mid_ended
                (broken (framing_bytes chunks + length (print_chunk_line line)) leaves last_small))));
          })))

      pub trailer_ends : after.status ≡ body.status → Hears b c (ReadsTrailerBy (lines - found.length) mid last g k (Ok tt)) → ContinuesWithin limit after read ended given out out a c f k (Ok false)
      trailer_ends same second =
          continues_on limit after read h.more ended h.found_end given out out a b c f g k (Ok false) low high h.heard
          (record {
            more = second.more;
            now_ended = second.found_end;
            heard = second.heard;
            gives = (
              refl,
              subst (λ (s : ℕ). IsResponseWithin limit ((read ++ h.more) ++ second.more) ((ended || h.found_end) || second.found_end) s given) (sym same)
                  (framed_whole limit ((read ++ h.more) ++ second.more) body.status chunked o.skipped o.head ((o.rest ++ h.more) ++ second.more) (framed_then second.more)
                  ((ended || h.found_end) || second.found_end) given
                  (record {
                    chunks = chunks;
                    line = line;
                    tail = (left body.stock ++ h.more) ++ second.more;
                    rest = left mid ++ second.more;
                    are_chunks = o.so_far.2.1;
                    reads = tail_then second.more;
                    ends = line_then second.more;
                    no_bytes = no_bytes;
                    line_framed = line_fits;
                    trailer = second.comes.0 (framing_bytes chunks + length (print_chunk_line line)) leaves;
                    made_of = o.so_far.2.3;
                  })),
            );
          })

-- ---- inside of a chunk

chunks_join : (chunks : List Chunk) (c : Chunk) → print_chunks (chunks ++ c ∷ []) ≡ print_chunks chunks ++ print_chunk c
chunks_join [] c = append-nil (print_chunk c)
chunks_join (d ∷ chunks) c =
    ap (λ (m : List ℕ). print_chunk d ++ m) (chunks_join chunks c) ∙ sym (append_assoc (print_chunk d) (print_chunks chunks) (print_chunk c))

bodies_join : (chunks : List Chunk) (c : Chunk) → body_of (chunks ++ c ∷ []) ≡ body_of chunks ++ c.bytes
bodies_join [] c = append-nil c.bytes
bodies_join (d ∷ chunks) c = ap (λ (m : List ℕ). d.bytes ++ m) (bodies_join chunks c) ∙ sym (append_assoc d.bytes (body_of chunks) c.bytes)

module _ (limit : ℕ) (body : OpenBody) (most at room lines : ℕ) (read given : List ℕ) (ended : Bool) (o : IsOpenWithin limit (record body { rest = Rest.Chunk most at room lines }) read ended given) where
  abbrev now : IsInChunk limit (body_place o.skipped o.head) o.rest given (left body.stock) most at room lines
  now = o.so_far.1

  in_framed : IsFramed limit read body.status chunked o.skipped o.head o.rest
  in_framed = framed_of limit (record body { rest = Rest.Chunk most at room lines }) read ended given chunked o refl o.so_far.0

  abbrev front : List ℕ
  front = print_chunks now.chunks ++ (print_chunk_line now.line ++ now.part)

  front_reads : o.rest ≡ front ++ left body.stock
  front_reads =
      now.reads
      ∙ ap (λ (l : List ℕ). print_chunks now.chunks ++ l) (sym (append_assoc (print_chunk_line now.line) now.part (left body.stock)))
      ∙ sym (append_assoc (print_chunks now.chunks) (print_chunk_line now.line ++ now.part) (left body.stock))

  front_small : length front ≤ 2 ^ 63
  front_small =
      let l = chunks_length now.chunks in
      let f = now.are_chunks.framed in
      let small = o.small in
      let a = length-append (print_chunks now.chunks) (print_chunk_line now.line ++ now.part) in
      let b = length-append (print_chunk_line now.line) now.part in
      let c = now.begins.within in
      let s = now.size in
      let r = now.room_is in
      omega (arith, l, f, small, a, b, c, s, r)

  in_small : place body.stock < 2 ^ 64
  in_small = place_small limit read body.status chunked o.skipped o.head o.rest in_framed body.stock front front_reads (o.place_is refl) front_small

  abbrev tail : List ℕ → List ℕ
  tail m = print_chunk_line now.line ++ (now.part ++ (left body.stock ++ m))

  in_there : (m : List ℕ) → o.rest ++ m ≡ print_chunks now.chunks ++ tail m
  in_there m =
      ap (λ (r : List ℕ). r ++ m) now.reads
      ∙ append_assoc (print_chunks now.chunks) (print_chunk_line now.line ++ (now.part ++ left body.stock)) m
      ∙ ap (λ (l : List ℕ). print_chunks now.chunks ++ l)
      (append_assoc (print_chunk_line now.line) (now.part ++ left body.stock) m ∙ ap (λ (l : List ℕ). print_chunk_line now.line ++ l) (append_assoc now.part (left body.stock) m))

  in_begins : (m : List ℕ) → BeginsWithLine (tail m) now.line (now.part ++ (left body.stock ++ m))
  in_begins m = record { reads = (now.begins.reads.0, refl); within = now.begins.within }

  in_breaks : (m : List ℕ) (d : Bool) (cause : WireEnd) → BreaksChunkWithin limit at (length (body_of now.chunks)) (framing_bytes now.chunks) (tail m) (ended || d) cause → BreaksWithin limit (read ++ m) (ended || d) cause
  in_breaks m d cause broken =
      framed_breaks limit (read ++ m) body.status chunked o.skipped o.head (o.rest ++ m) (framed_more limit read body.status chunked o.skipped o.head o.rest in_framed m) (ended || d) cause
      (record {
        chunks = now.chunks;
        tail = tail m;
        are_chunks = now.are_chunks;
        reads = in_there m;
        breaks = subst (λ (p : ℕ). BreaksChunkWithin limit p (length (body_of now.chunks)) (framing_bytes now.chunks) (tail m) (ended || d) cause) now.place_is broken;
      })

  in_limit : length (body_of now.chunks) + chunk_size now.line ≤ limit
  in_limit = let r = now.room_is in omega (arith, r)

  lines_limit : framing_bytes now.chunks + (length (print_chunk_line now.line) + 2) ≤ most_framing_bytes
  lines_limit = let r = now.lines_are in omega (arith, r)

  cut_at : (m : List ℕ) (d : Bool) → length (now.part ++ (left body.stock ++ m)) < chunk_size now.line + 2 → (ended || d) ≡ true → BreaksWithin limit (read ++ m) (ended || d) WireEnd.Ended
  cut_at m d short over =
      in_breaks m d WireEnd.Ended
      (bytes_cut at (length (body_of now.chunks)) (framing_bytes now.chunks) (tail m) (now.part ++ (left body.stock ++ m)) (ended || d) now.line (in_begins m) lines_limit now.some in_limit short over)

  module _ (mid : Stock) (a b : Option Talk) (f g count : ℕ) (h : Hears a b (ReadiesBy body.stock mid f g (Ok count))) where
    -- the connection ended within the chunk
    pub chunk_cut : (after : OpenBody) (out : List ℕ) → count ≡ 0 → ContinuesWithin limit after read ended given out out a b f g (Err (ResponseEnd.Wire WireEnd.Ended))
    chunk_cut after out none = record {
      more = h.more;
      now_ended = h.found_end;
      heard = h.heard;
      gives = (
        refl,
        cut_at h.more h.found_end
            (let l = length-append now.part (left body.stock ++ h.more) in
            let e = ap length h.comes.0.left_is in
            let c = h.comes.1 in
            let s = now.size in
            omega (arith, l, e, c, s, none))
            (all_ended body.stock mid a b f g count h ended none o.ended_is),
      );
    }

    -- some of its bytes are given
    pub chunk_given : (new : Stock) (old_out new_out : List ℕ) (n : ℕ) → IsPiece body.stock mid new h.more h.found_end n → 0 < n → n ≤ most → new_out ≡ old_out ++ take n (left mid)
        → ContinuesWithin limit (record body { stock = new; rest = Rest.Chunk (most - n) at room lines }) read ended given old_out new_out a b f g (Ok true)
    chunk_given new old_out new_out n p some within put =
        let piece : List ℕ = take n (left mid) in
        let long : length piece ≡ n = piece_length body.stock mid new h.more h.found_end n p in
        let split : left body.stock ++ h.more ≡ piece ++ left new =
        sym h.comes.0.left_is ∙ sym (take-append-drop n (left mid)) ∙ ap (λ (l : List ℕ). piece ++ l) (sym p.left_is) in
        record {
          more = h.more;
          now_ended = h.found_end;
          heard = h.heard;
          gives = (
            piece,
            omega (arith, long, some),
            put,
            framed_open limit (read ++ h.more) body.status chunked o.skipped o.head (o.rest ++ h.more)
                (framed_more limit read body.status chunked o.skipped o.head o.rest in_framed h.more)
                (record body { stock = new; rest = Rest.Chunk (most - n) at room lines }) (ended || h.found_end) (given ++ piece) refl
                (piece_ended body.stock mid new h.more h.found_end n p ended o.ended_is) refl
                (piece_placed body.stock mid new h.more h.found_end n p read (o.place_is refl) in_small) (
                  o.so_far.0,
                  record {
                    chunks = now.chunks;
                    line = now.line;
                    part = now.part ++ piece;
                    are_chunks = now.are_chunks;
                    begins = record { reads = (now.begins.reads.0, refl); within = now.begins.within };
                    reads =
                        in_there h.more
                        ∙ ap (λ (l : List ℕ). print_chunks now.chunks ++ (print_chunk_line now.line ++ l))
                        (ap (λ (l : List ℕ). now.part ++ l) split ∙ sym (append_assoc now.part piece (left new)));
                    given_is = ap (λ (l : List ℕ). l ++ piece) now.given_is ∙ append_assoc (body_of now.chunks) now.part piece;
                    size = let s = now.size in let l = length-append now.part piece in omega (arith, s, l, long, within);
                    some = now.some;
                    room_is = now.room_is;
                    lines_are = now.lines_are;
                    place_is = now.place_is;
                  },
                ),
          );
        }

  -- ---- behind its bytes

  module _ (none : most ≡ 0) where
    whole_size : chunk_size now.line ≡ length now.part
    whole_size = let s = now.size in omega (arith, s, none)

    end_breaks : (m : List ℕ) (d : Bool) (cause : WireEnd) → BreaksEnd at (left body.stock ++ m) (body.stock.ended || d) cause → BreaksWithin limit (read ++ m) (ended || d) cause
    end_breaks m d WireEnd.Ended e =
        cut_at m d
        (let l = length-append now.part (left body.stock ++ m) in let s = whole_size in let w = e.0 in omega (arith, l, s, w))
        (ap (λ (v : Bool). v || d) (sym o.ended_is) ∙ e.1)
    end_breaks m d (WireEnd.Malformed k) e =
        subst (λ (p : ℕ). BreaksWithin limit (read ++ m) (ended || d) (WireEnd.Malformed p)) (sym e.0)
        (in_breaks m d (WireEnd.Malformed at)
        (end_bad at (length (body_of now.chunks)) (framing_bytes now.chunks) (tail m) (now.part ++ (left body.stock ++ m)) (ended || d) now.line (in_begins m) lines_limit now.some in_limit
        (let l = length-append now.part (left body.stock ++ m) in let s = whole_size in let w = e.1 in omega (arith, l, s, w))
        (subst (λ (l : List ℕ). take 2 l ≢ crlf_bytes)
        (sym (ap (λ (n : ℕ). drop n (now.part ++ (left body.stock ++ m))) whole_size ∙ drop-append_seam now.part (left body.stock ++ m))) e.2)))
    end_breaks m d WireEnd.Encoded e = absurd e
    end_breaks m d WireEnd.TooLarge e = absurd e
    end_breaks m d WireEnd.Fault e = absurd e
    end_breaks m d WireEnd.BadBody e = absurd e

    pub end_refused : (mid : Stock) (after : OpenBody) (out : List ℕ) (a b : Option Talk) (f g : ℕ) (end : ResponseEnd) → f ≤ g → Hears a b (ReadsEndBy at body.stock mid f g (Err end))
        → ContinuesWithin limit after read ended given out out a b f g (Err end)
    end_refused mid after out a b f g end le h =
        piece_refused limit (λ (m : List ℕ) (d : Bool) (done : Unit {0}). IsPastEnd body.stock mid (left body.stock ++ m) (body.stock.ended || d))
        (λ (m : List ℕ) (d : Bool). BreaksEnd at (left body.stock ++ m) (body.stock.ended || d)) after read ended given out a b f g end le h end_breaks

    module _ (mid : Stock) (more : List ℕ) (found_end : Bool) (past : IsPastEnd body.stock mid (left body.stock ++ more) (body.stock.ended || found_end)) where
      abbrev chunk : Chunk
      chunk = record { line = now.line; bytes = now.part }

      is_chunk : IsChunk chunk
      is_chunk = record {
        line = now.begins.reads.0;
        within = now.begins.within;
        some = let s = whole_size in let w = now.some in omega (arith, s, w);
        size = sym whole_size;
      }

      all_long : length (body_of (now.chunks ++ chunk ∷ [])) ≡ length (body_of now.chunks) + length now.part
      all_long = ap length (bodies_join now.chunks chunk) ∙ length-append (body_of now.chunks) now.part

      framing_join : framing_bytes (now.chunks ++ chunk ∷ []) ≡ framing_bytes now.chunks + (length (print_chunk_line now.line) + 2)
      framing_join = sum_by_push (λ (one : Chunk). length (print_chunk_line one.line) + 2) now.chunks chunk

      -- the chunk is whole, and the next one comes
      pub past_chunk : IsOpenWithin limit (record body { stock = mid; rest = Rest.Chunks room lines }) (read ++ more) (ended || found_end) given
      past_chunk =
          framed_open limit (read ++ more) body.status chunked o.skipped o.head (o.rest ++ more)
          (framed_more limit read body.status chunked o.skipped o.head o.rest in_framed more)
          (record body { stock = mid; rest = Rest.Chunks room lines }) (ended || found_end) given refl
          (ended_past body.stock.ended ended mid.ended found_end past.ended_is o.ended_is) refl
          (placed_past body.stock mid read more crlf_bytes past.reads (past.place_is in_small) (o.place_is refl)) (
            o.so_far.0,
            let e = ap length now.given_is in
                let l = length-append (body_of now.chunks) now.part in
                let s = whole_size in
                let r = now.room_is in
                omega (arith, e, l, s, r),
            (
              now.chunks ++ chunk ∷ [],
              record {
                each = All-push IsChunk now.chunks chunk now.are_chunks.each is_chunk;
                within = let l = all_long in let s = whole_size in let w = in_limit in omega (arith, l, s, w);
                framed = let l = framing_join in let w = lines_limit in omega (arith, l, w);
              },
              in_there more
                  ∙ ap (λ (l : List ℕ). print_chunks now.chunks ++ (print_chunk_line now.line ++ (now.part ++ l))) past.reads
                  ∙ ap (λ (l : List ℕ). print_chunks now.chunks ++ l)
                  (sym (
                  append_assoc (print_chunk_line now.line) (now.part ++ crlf_bytes) (left mid) ∙ ap (λ (l : List ℕ). print_chunk_line now.line ++ l) (append_assoc now.part crlf_bytes (left mid))))
                  ∙ sym (append_assoc (print_chunks now.chunks) (print_chunk chunk) (left mid)) ∙ ap (λ (l : List ℕ). l ++ left mid) (sym (chunks_join now.chunks chunk)),
              now.given_is ∙ sym (bodies_join now.chunks chunk),
              let l = framing_join in let r = now.lines_are in omega (arith, l, r),
            ),
          )
