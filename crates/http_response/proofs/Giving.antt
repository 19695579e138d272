-- What asking for a piece of a body gives, by what one reading gives and by what stands behind it.
use Rattle.std.proofs.Common.{◌≡◌, ℕ, ◌+◌, ◌<◌, ◌≤◌, ◌||◌, ◌^◌, Bool, true, false, List, [], ◌++◌, length, take, drop, Option, refl, sym, ap, ◌∙◌, subst, arith, append_assoc}
use Rattle.std.proofs.lemmas.List.{append-nil, length-append, length-take-le, take-append-drop}
use Rattle.std.specs.Prelude.{Err, Ok, Result}
use Rattle.engine_types.specs.declared.WireEnd.{WireEnd}
use Rattle.outside_api.specs.Pipes.{Talk}
use Rattle.response_rules.specs.Responses.{BreaksWithin}
use Rattle.http_response.specs.Bodies.{ContinuesWithin, GivesBy}
use Rattle.http_response.specs.Hearing.{ComesTo, Heard, Hears}
use Rattle.http_response.specs.Reading.{EndsByWithin}
use Rattle.http_response.specs.Stocks.{IsFilled, left, place}
use Rattle.http_response.specs.declared.body.OpenBody.{OpenBody}
use Rattle.http_response.specs.declared.response.ResponseEnd.{ResponseEnd}
use Rattle.http_response.specs.declared.stock.Stock.{Stock}
use Rattle.http_response.proofs.Listening.{heard_on, nothing_heard, or_assoc, or_nothing, refuses, rose_from}
use Rattle.http_response.proofs.Opening.{ends_by}

-- ---- a refusal

pub ends_from : (limit : ℕ) (read : List ℕ) (ended : Bool) (f g h : ℕ) (cause : WireEnd) → f ≤ g → g ≤ h → EndsByWithin limit read ended g h cause → EndsByWithin limit read ended f h cause
ends_from limit read ended f g h WireEnd.Fault low high e = rose_from f g h low high e
ends_from limit read ended f g h WireEnd.BadBody low high e = e
ends_from limit read ended f g h WireEnd.Ended low high e = e
ends_from limit read ended f g h (WireEnd.Malformed at) low high e = e
ends_from limit read ended f g h WireEnd.Encoded low high e = e
ends_from limit read ended f g h WireEnd.TooLarge low high e = e

refused : (limit : ℕ) {A : Type 0} (good : A → Type 0) (after : OpenBody) (read : List ℕ) (ended : Bool) (given out : List ℕ) (f g : ℕ) (end : ResponseEnd)
    → ComesTo good (BreaksWithin limit read ended) f g (Err end) → GivesBy limit after read ended given out out f g (Err end)
refused limit good after read ended given out f g (ResponseEnd.Wire cause) c = (refl, ends_by limit good read ended f g cause c)
refused limit good after read ended given out f g ResponseEnd.Memory c = refl

-- one reading is refused
pub piece_refused : (limit : ℕ) {A : Type 0} (good : List ℕ → Bool → A → Type 0) (bad : List ℕ → Bool → WireEnd → Type 0) (after : OpenBody) (read : List ℕ) (ended : Bool) (given out : List ℕ)
    (a b : Option Talk) (f g : ℕ) (end : ResponseEnd) → f ≤ g → Hears a b (λ (m : List ℕ) (d : Bool). ComesTo (good m d) (bad m d) f g (Err end))
    → ((m : List ℕ) (d : Bool) (cause : WireEnd) → bad m d cause → BreaksWithin limit (read ++ m) (ended || d) cause) → ContinuesWithin limit after read ended given out out a b f g (Err end)
piece_refused limit good bad after read ended given out a b f g end le h as_that = record {
  more = h.more;
  now_ended = h.found_end;
  heard = h.heard;
  gives =
      refused limit (good h.more h.found_end) after (read ++ h.more) (ended || h.found_end) given out f g end
      (refuses (good h.more h.found_end) (good h.more h.found_end) (bad h.more h.found_end) (BreaksWithin limit (read ++ h.more) (ended || h.found_end)) f f g end (omega arith) le h.comes
      (as_that h.more h.found_end));
}

-- ---- one reading behind another

gives_from : (limit : ℕ) (after : OpenBody) (read : List ℕ) (ended : Bool) (given old_out new_out : List ℕ) (f g h : ℕ) (answer : Result Bool ResponseEnd) → f ≤ g → g ≤ h
    → GivesBy limit after read ended given old_out new_out g h answer → GivesBy limit after read ended given old_out new_out f h answer
gives_from limit after read ended given old_out new_out f g h (Ok true) low high by = by
gives_from limit after read ended given old_out new_out f g h (Ok false) low high by = by
gives_from limit after read ended given old_out new_out f g h (Err (ResponseEnd.Wire cause)) low high by = (by.0, ends_from limit read ended f g h cause low high by.1)
gives_from limit after read ended given old_out new_out f g h (Err ResponseEnd.Memory) low high by = by

pub continues_on : (limit : ℕ) (after : OpenBody) (read m : List ℕ) (ended d : Bool) (given old_out new_out : List ℕ) (a b c : Option Talk) (f g h : ℕ) (answer : Result Bool ResponseEnd)
    → f ≤ g → g ≤ h → Heard m d a b → ContinuesWithin limit after (read ++ m) (ended || d) given old_out new_out b c g h answer
    → ContinuesWithin limit after read ended given old_out new_out a c f h answer
continues_on limit after read m ended d given old_out new_out a b c f g h answer low high heard k = record {
  more = m ++ k.more;
  now_ended = d || k.now_ended;
  heard = heard_on m k.more d k.now_ended a b c heard k.heard;
  gives =
      subst (λ (r : List ℕ). GivesBy limit after r (ended || (d || k.now_ended)) given old_out new_out f h answer) (append_assoc read m k.more)
      (subst (λ (v : Bool). GivesBy limit after ((read ++ m) ++ k.more) v given old_out new_out f h answer) (or_assoc ended d k.now_ended)
      (gives_from limit after ((read ++ m) ++ k.more) ((ended || d) || k.now_ended) given old_out new_out f g h answer low high k.gives));
}

-- nothing was read
pub continues_here : (limit : ℕ) (after : OpenBody) (read : List ℕ) (ended : Bool) (given old_out new_out : List ℕ) (told : Option Talk) (f g : ℕ) (answer : Result Bool ResponseEnd)
    → GivesBy limit after read ended given old_out new_out f g answer → ContinuesWithin limit after read ended given old_out new_out told told f g answer
continues_here limit after read ended given old_out new_out told f g answer by = record {
  more = [];
  now_ended = false;
  heard = nothing_heard told;
  gives =
      subst (λ (r : List ℕ). GivesBy limit after r (ended || false) given old_out new_out f g answer) (sym (append-nil read))
      (subst (λ (v : Bool). GivesBy limit after read v given old_out new_out f g answer) (or_nothing ended) by);
}

-- ---- a piece of what was read

-- of the bytes that are ready, so many are given
pub record IsPiece (old mid new : Stock) (more : List ℕ) (found_end : Bool) (n : ℕ) : Type 0 where
  pub filled : IsFilled old mid more found_end
  pub within : n ≤ length (left mid)
  pub left_is : left new ≡ drop n (left mid)
  pub place_is : place new ≡ place mid + n
  pub ended_is : new.ended ≡ mid.ended

module _ (old mid new : Stock) (more : List ℕ) (found_end : Bool) (n : ℕ) (p : IsPiece old mid new more found_end n) where
  -- the bytes in front, with the piece behind them
  pub piece_split : (rest front : List ℕ) → rest ≡ front ++ left old → rest ++ more ≡ front ++ (take n (left mid) ++ left new)
  piece_split rest front e =
      ap (λ (r : List ℕ). r ++ more) e ∙ append_assoc front (left old) more ∙ ap (λ (l : List ℕ). front ++ l) (sym p.filled.left_is)
      ∙ ap (λ (l : List ℕ). front ++ l) (sym (take-append-drop n (left mid))) ∙ ap (λ (l : List ℕ). front ++ (take n (left mid) ++ l)) (sym p.left_is)

  pub piece_joined : (rest front : List ℕ) → rest ≡ front ++ left old → rest ++ more ≡ (front ++ take n (left mid)) ++ left new
  piece_joined rest front e = piece_split rest front e ∙ sym (append_assoc front (take n (left mid)) (left new))

  pub piece_length : length (take n (left mid)) ≡ n
  piece_length = length-take-le n (left mid) p.within

  pub piece_placed : (read : List ℕ) → place old + length (left old) ≡ length read → place old < 2 ^ 64 → place new + length (left new) ≡ length (read ++ more)
  piece_placed read placed small =
      let whole : length (left mid) ≡ length (take n (left mid)) + length (left new) =
      ap length (sym (take-append-drop n (left mid))) ∙ length-append (take n (left mid)) (drop n (left mid)) ∙ ap (λ (l : List ℕ). length (take n (left mid)) + length l) (sym p.left_is) in
      let grown : length (left mid) ≡ length (left old) + length more = ap length p.filled.left_is ∙ length-append (left old) more in
      let q = p.filled.place_is small in
      let w = length-append read more in
      let k = piece_length in
      let s = p.place_is in
      omega (arith, whole, grown, q, w, k, s, placed)

  pub piece_ended : (ended : Bool) → old.ended ≡ ended → new.ended ≡ (ended || found_end)
  piece_ended ended e = p.ended_is ∙ p.filled.ended_is ∙ ap (λ (v : Bool). v || found_end) e
