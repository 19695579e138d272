-- A body of so many bytes, and one to the connection's end, of which a piece is given (RFC 9112, section 6.3).
use Rattle.std.proofs.Common.{◌≡◌, ℕ, ◌+◌, ◌-◌, ◌<◌, ◌≤◌, ◌||◌, ◌^◌, Bool, true, false, List, [], ◌∷◌, ◌++◌, length, take, drop, Option, Some, refl, sym, ap, ◌∙◌, subst, arith, append_assoc}
use Rattle.std.proofs.Math.Seq.{take-append_seam}
use Rattle.std.proofs.lemmas.List.{append-nil, length-append}
use Rattle.std.specs.Prelude.{Err, IsTrue, Ok}
use Rattle.engine_types.specs.declared.WireEnd.{WireEnd}
use Rattle.outside_api.specs.Pipes.{Talk}
use Rattle.response_rules.specs.Heads.{sized, to_end}
use Rattle.response_rules.specs.Responses.{IsResponseWithin}
use Rattle.http_response.specs.Bodies.{ContinuesWithin, IsOpenWithin}
use Rattle.http_response.specs.Hearing.{Hears}
use Rattle.http_response.specs.Stocks.{IsFilled, ReadiesBy, left, place}
use Rattle.http_response.specs.declared.body.OpenBody.{OpenBody}
use Rattle.http_response.specs.declared.body.Rest.{Rest}
use Rattle.http_response.specs.declared.response.ResponseEnd.{ResponseEnd}
use Rattle.http_response.specs.declared.stock.Stock.{Stock}
use Rattle.http_response.proofs.Framed.{IsFramed, framed_breaks, framed_more, framed_of, framed_open, framed_whole, place_small}
use Rattle.http_response.proofs.Giving.{IsPiece, continues_here, piece_ended, piece_joined, piece_length, piece_placed, piece_refused}
use Rattle.http_response.proofs.Within.{given_within}

-- ---- bytes that were to be ready

pub ready_refused : (limit : ℕ) (old mid : Stock) (after : OpenBody) (read : List ℕ) (ended : Bool) (given out : List ℕ) (a b : Option Talk) (f g : ℕ) (end : ResponseEnd) → f ≤ g
    → Hears a b (ReadiesBy old mid f g (Err end)) → ContinuesWithin limit after read ended given out out a b f g (Err end)
ready_refused limit old mid after read ended given out a b f g end le h =
    piece_refused limit (λ (more : List ℕ) (found_end : Bool) (count : ℕ). IsFilled old mid more found_end × (count ≡ length (left mid)) × (count ≡ 0 → IsTrue mid.ended))
    (λ (more : List ℕ) (found_end : Bool) (cause : WireEnd). ⊥) after read ended given out a b f g end le h
    (λ (more : List ℕ) (found_end : Bool) (cause : WireEnd) (never : ⊥). absurd never)

pub not_given : (limit : ℕ) (old mid : Stock) (after : OpenBody) (read : List ℕ) (ended : Bool) (given old_out new_out : List ℕ) (a b : Option Talk) (f g count : ℕ)
    → Hears a b (ReadiesBy old mid f g (Ok count)) → new_out ≡ old_out → ContinuesWithin limit after read ended given old_out new_out a b f g (Err ResponseEnd.Memory)
not_given limit old mid after read ended given old_out new_out a b f g count h same = record { more = h.more; now_ended = h.found_end; heard = h.heard; gives = same }

none_left : (bytes : List ℕ) → length bytes ≡ 0 → bytes ≡ []
none_left [] e = refl
none_left (b ∷ bytes) e = absurd (omega (arith, e))

module _ (old mid : Stock) (a b : Option Talk) (f g count : ℕ) (h : Hears a b (ReadiesBy old mid f g (Ok count))) where
  -- a piece of what is ready
  pub piece_of : (new : Stock) (n : ℕ) → n ≤ count → left new ≡ drop n (left mid) → place new ≡ place mid + n → new.ended ≡ mid.ended → IsPiece old mid new h.more h.found_end n
  piece_of new n within left_is place_is ended_is = record {
    filled = h.comes.0;
    within = let e = h.comes.1 in omega (arith, e, within);
    left_is = left_is;
    place_is = place_is;
    ended_is = ended_is;
  }

  -- nothing is ready: all that was read is in front
  pub all_read : (rest front : List ℕ) → count ≡ 0 → rest ≡ front ++ left old → rest ++ h.more ≡ front
  all_read rest front none e =
      ap (λ (r : List ℕ). r ++ h.more) e ∙ append_assoc front (left old) h.more ∙ ap (λ (l : List ℕ). front ++ l) (sym h.comes.0.left_is)
      ∙ ap (λ (l : List ℕ). front ++ l) (none_left (left mid) (sym h.comes.1 ∙ none)) ∙ append-nil front

  pub all_ended : (ended : Bool) → count ≡ 0 → old.ended ≡ ended → (ended || h.found_end) ≡ true
  all_ended ended none e = ap (λ (v : Bool). v || h.found_end) (sym e) ∙ sym h.comes.0.ended_is ∙ h.comes.2 none

-- ---- so many bytes

module _ (limit : ℕ) (body : OpenBody) (most : ℕ) (read given : List ℕ) (ended : Bool) (o : IsOpenWithin limit (record body { rest = Rest.Sized most }) read ended given) where
  sized_framed : IsFramed limit read body.status (sized (length given + most)) o.skipped o.head o.rest
  sized_framed = framed_of limit (record body { rest = Rest.Sized most }) read ended given (sized (length given + most)) o refl o.so_far.0

  front_small : length given ≤ 2 ^ 63
  front_small = let w = given_within limit (record body { rest = Rest.Sized most }) read ended given o in let s = o.small in omega (arith, w, s)

  -- all of them were given
  pub sized_whole : (out : List ℕ) (told : Option Talk) (f : ℕ) → most ≡ 0 → ContinuesWithin limit body read ended given out out told told f f (Ok false)
  sized_whole out told f none =
      let front : take (length given + most) o.rest ≡ given =
      ap (λ (n : ℕ). take n o.rest) (let z : length given + most ≡ length given = omega (arith, none) in z)
      ∙ ap (take (length given)) o.so_far.1 ∙ take-append_seam given (left body.stock) in
      let long : length given + most ≤ length o.rest =
      let e = ap length o.so_far.1 in let l = length-append given (left body.stock) in omega (arith, e, l, none) in
      continues_here limit body read ended given out out told f f (Ok false)
      (refl, framed_whole limit read body.status (sized (length given + most)) o.skipped o.head o.rest sized_framed ended given (long, sym front))

  module _ (mid : Stock) (a b : Option Talk) (f g count : ℕ) (h : Hears a b (ReadiesBy body.stock mid f g (Ok count))) where
    -- the connection ended before
    pub sized_cut : (after : OpenBody) (out : List ℕ) → count ≡ 0 → 0 < most → ContinuesWithin limit after read ended given out out a b f g (Err (ResponseEnd.Wire WireEnd.Ended))
    sized_cut after out none some = record {
      more = h.more;
      now_ended = h.found_end;
      heard = h.heard;
      gives = (
        refl,
        framed_breaks limit (read ++ h.more) body.status (sized (length given + most)) o.skipped o.head (o.rest ++ h.more)
            (framed_more limit read body.status (sized (length given + most)) o.skipped o.head o.rest sized_framed h.more) (ended || h.found_end) WireEnd.Ended (
              let e = ap length (all_read body.stock mid a b f g count h o.rest given none o.so_far.1) in omega (arith, e, some),
              all_ended body.stock mid a b f g count h ended none o.ended_is,
              refl,
            ),
      );
    }

    -- some of them are given
    pub sized_given : (new : Stock) (old_out new_out : List ℕ) (n : ℕ) → IsPiece body.stock mid new h.more h.found_end n → 0 < n → n ≤ most → new_out ≡ old_out ++ take n (left mid)
        → ContinuesWithin limit (record body { stock = new; rest = Rest.Sized (most - n) }) read ended given old_out new_out a b f g (Ok true)
    sized_given new old_out new_out n p some within put = record {
      more = h.more;
      now_ended = h.found_end;
      heard = h.heard;
      gives = (
        take n (left mid),
        let l = piece_length body.stock mid new h.more h.found_end n p in omega (arith, l, some),
        put,
        framed_open limit (read ++ h.more) body.status (sized (length given + most)) o.skipped o.head (o.rest ++ h.more)
            (framed_more limit read body.status (sized (length given + most)) o.skipped o.head o.rest sized_framed h.more)
            (record body { stock = new; rest = Rest.Sized (most - n) }) (ended || h.found_end) (given ++ take n (left mid)) refl
            (piece_ended body.stock mid new h.more h.found_end n p ended o.ended_is) refl
            (piece_placed body.stock mid new h.more h.found_end n p read (o.place_is refl)
            (place_small limit read body.status (sized (length given + most)) o.skipped o.head o.rest sized_framed body.stock given o.so_far.1 (o.place_is refl) front_small)) (
              o.so_far.0
                  ∙ ap (λ (k : ℕ). Some (sized k))
                  (let l = piece_length body.stock mid new h.more h.found_end n p in
                  let m = length-append given (take n (left mid)) in
                  let z : length given + most ≡ length (given ++ take n (left mid)) + (most - n) = omega (arith, l, m, within) in
                  z),
              piece_joined body.stock mid new h.more h.found_end n p o.rest given o.so_far.1,
            ),
      );
    }

-- ---- to the connection's end

module _ (limit : ℕ) (body : OpenBody) (room : ℕ) (read given : List ℕ) (ended : Bool) (o : IsOpenWithin limit (record body { rest = Rest.ToEnd room }) read ended given) where
  to_end_framed : IsFramed limit read body.status to_end o.skipped o.head o.rest
  to_end_framed = framed_of limit (record body { rest = Rest.ToEnd room }) read ended given to_end o refl o.so_far.0

  to_end_small : length given ≤ 2 ^ 63
  to_end_small = let w = o.so_far.2 in let s = o.small in omega (arith, w, s)

  module _ (mid : Stock) (a b : Option Talk) (f g count : ℕ) (h : Hears a b (ReadiesBy body.stock mid f g (Ok count))) where
    abbrev bytes : List ℕ
    bytes = o.rest ++ h.more

    framed_there : IsFramed limit (read ++ h.more) body.status to_end o.skipped o.head bytes
    framed_there = framed_more limit read body.status to_end o.skipped o.head o.rest to_end_framed h.more

    -- the body passes its limit
    pub to_end_long : (after : OpenBody) (out : List ℕ) → room < count → ContinuesWithin limit after read ended given out out a b f g (Err (ResponseEnd.Wire WireEnd.TooLarge))
    to_end_long after out over = record {
      more = h.more;
      now_ended = h.found_end;
      heard = h.heard;
      gives = (
        refl,
        framed_breaks limit (read ++ h.more) body.status to_end o.skipped o.head bytes framed_there (ended || h.found_end) WireEnd.TooLarge (
          let e = ap length (ap (λ (r : List ℕ). r ++ h.more) o.so_far.1 ∙ append_assoc given (left body.stock) h.more) in
              let l = length-append given (left body.stock ++ h.more) in
              let s = ap length h.comes.0.left_is in
              let c = h.comes.1 in
              let w = o.so_far.2 in
              omega (arith, e, l, s, c, w, over),
          refl,
        ),
      );
    }

    -- the connection ended, and with it the body
    pub to_end_whole : (after : OpenBody) (out : List ℕ) → after.status ≡ body.status → count ≡ 0 → ContinuesWithin limit after read ended given out out a b f g (Ok false)
    to_end_whole after out same none = record {
      more = h.more;
      now_ended = h.found_end;
      heard = h.heard;
      gives = (
        refl,
        subst (λ (s : ℕ). IsResponseWithin limit (read ++ h.more) (ended || h.found_end) s given) (sym same)
            (framed_whole limit (read ++ h.more) body.status to_end o.skipped o.head bytes framed_there (ended || h.found_end) given (
              all_ended body.stock mid a b f g count h ended none o.ended_is,
              let e = ap length (all_read body.stock mid a b f g count h o.rest given none o.so_far.1) in let w = o.so_far.2 in omega (arith, e, w),
              sym (all_read body.stock mid a b f g count h o.rest given none o.so_far.1),
            )),
      );
    }

    -- what is ready is given
    pub to_end_given : (new : Stock) (old_out new_out : List ℕ) → IsPiece body.stock mid new h.more h.found_end count → 0 < count → count ≤ room
        → new_out ≡ old_out ++ take count (left mid)
        → ContinuesWithin limit (record body { stock = new; rest = Rest.ToEnd (room - count) }) read ended given old_out new_out a b f g (Ok true)
    to_end_given new old_out new_out p some within put = record {
      more = h.more;
      now_ended = h.found_end;
      heard = h.heard;
      gives = (
        take count (left mid),
        let l = piece_length body.stock mid new h.more h.found_end count p in omega (arith, l, some),
        put,
        framed_open limit (read ++ h.more) body.status to_end o.skipped o.head bytes framed_there
            (record body { stock = new; rest = Rest.ToEnd (room - count) }) (ended || h.found_end) (given ++ take count (left mid)) refl
            (piece_ended body.stock mid new h.more h.found_end count p ended o.ended_is) refl
            (piece_placed body.stock mid new h.more h.found_end count p read (o.place_is refl)
            (place_small limit read body.status to_end o.skipped o.head o.rest to_end_framed body.stock given o.so_far.1 (o.place_is refl) to_end_small)) (
              o.so_far.0,
              piece_joined body.stock mid new h.more h.found_end count p o.rest given o.so_far.1,
              let l = piece_length body.stock mid new h.more h.found_end count p in
                  let m = length-append given (take count (left mid)) in
                  let w = o.so_far.2 in
                  omega (arith, l, m, w, within),
            ),
      );
    }
