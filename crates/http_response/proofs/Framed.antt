-- A response whose head was read, with the framing of its body: what more bytes change, and what a body says of the whole.
use Rattle.std.proofs.Common.{◌≡◌, ℕ, ◌+◌, ◌<◌, ◌≤◌, ◌^◌, Bool, true, false, List, ◌++◌, length, Option, Some, None, sym, ap, ◌∙◌, subst, inr, arith, append_assoc, true≢false}
use Rattle.std.proofs.lemmas.List.{length-append}
use Rattle.std.specs.Prelude.{IsFalse, IsSomeAnd}
use Rattle.engine_types.specs.declared.WireEnd.{WireEnd}
use Rattle.httparse.specs.Grammar.{ResponseHead, print_response, status_code}
use Rattle.response_rules.specs.Heads.{Framing, framing_of, has_no_body, head_fault_within, is_interim}
use Rattle.response_rules.specs.Responses.{BeginsWithHeadWithin, BreaksWithin, BreaksBodyWithin, HasBodyWithin, IsResponseWithin, SkipsWithin, bad_body, print_heads}
use Rattle.http_response.specs.Bodies.{IsGiven, IsOpenWithin, is_done}
use Rattle.http_response.specs.Stocks.{left, place}
use Rattle.http_response.specs.declared.body.OpenBody.{OpenBody}
use Rattle.http_response.specs.declared.stock.Stock.{Stock}
use Rattle.http_response.proofs.Heading.{skips_more}

-- where the body's bytes begin
abbrev pub body_place : List ResponseHead → ResponseHead → ℕ
body_place skipped head = length (print_heads skipped) + length (print_response head)

-- a head with a body of this framing, and the bytes behind it
pub record IsFramed (limit : ℕ) (read : List ℕ) (status : ℕ) (framing : Framing) (skipped : List ResponseHead) (head : ResponseHead) (rest : List ℕ) : Type 0 where
  pub begins : BeginsWithHeadWithin limit read skipped head rest
  pub final : IsFalse (is_interim (status_code head))
  pub sound : head_fault_within limit 0 head.fields ≡ None
  pub status_is : status ≡ status_code head
  pub body : IsFalse (has_no_body (status_code head))
  pub framing_is : framing_of head.fields ≡ Some framing
  pub small : limit < 2 ^ 62

begins_more : (limit : ℕ) (read rest more : List ℕ) (skipped : List ResponseHead) (head : ResponseHead) → BeginsWithHeadWithin limit read skipped head rest → BeginsWithHeadWithin limit (read ++ more) skipped head (rest ++ more)
begins_more limit read rest more skipped head b = record {
  skips =
      subst (λ (tail : List ℕ). SkipsWithin limit (read ++ more) skipped tail) (append_assoc (print_response head) rest more)
      (skips_more limit read (print_response head ++ rest) more skipped b.skips);
  is_head = b.is_head;
  few = b.few;
  within = b.within;
}

-- an open body's head, with its framing
pub framed_of : (limit : ℕ) (open_body : OpenBody) (read : List ℕ) (ended : Bool) (given : List ℕ) (framing : Framing) (o : IsOpenWithin limit open_body read ended given) → is_done open_body.rest ≡ false
    → framing_of o.head.fields ≡ Some framing → IsFramed limit read open_body.status framing o.skipped o.head o.rest
framed_of limit open_body read ended given framing o going e = record {
  begins = o.begins;
  final = o.final;
  sound = o.sound;
  status_is = o.status_is;
  body = o.has_body going;
  framing_is = e;
  small = o.small;
}

module _ (limit : ℕ) (read : List ℕ) (status : ℕ) (framing : Framing) (skipped : List ResponseHead) (head : ResponseHead) (rest : List ℕ) (h : IsFramed limit read status framing skipped head rest) where
  pub framed_more : (more : List ℕ) → IsFramed limit (read ++ more) status framing skipped head (rest ++ more)
  framed_more more = record {
    begins = begins_more limit read rest more skipped head h.begins;
    final = h.final;
    sound = h.sound;
    status_is = h.status_is;
    body = h.body;
    framing_is = h.framing_is;
    small = h.small;
  }

  -- where what is left begins
  pub place_of : (stock : Stock) (front : List ℕ) → rest ≡ front ++ left stock → place stock + length (left stock) ≡ length read
      → place stock ≡ body_place skipped head + length front
  place_of stock front e placed =
      let a = ap length h.begins.skips.reads in
      let b = length-append (print_heads skipped) (print_response head ++ rest) in
      let c = length-append (print_response head) rest in
      let d = ap length e in
      let f = length-append front (left stock) in
      omega (arith, a, b, c, d, f, placed)

  pub place_small : (stock : Stock) (front : List ℕ) → rest ≡ front ++ left stock → place stock + length (left stock) ≡ length read → length front ≤ 2 ^ 63
      → place stock < 2 ^ 64
  place_small stock front e placed small =
      let p = place_of stock front e placed in
      let w = h.begins.within in
      omega (arith, p, w, small)

  -- with its whole body, it is a response
  pub framed_whole : (ended : Bool) (body : List ℕ) → HasBodyWithin limit framing rest ended body → IsResponseWithin limit read ended status body
  framed_whole ended body b = record {
    skipped = skipped;
    head = head;
    rest = rest;
    begins = h.begins;
    final = h.final;
    sound = h.sound;
    has_status = h.status_is;
    has_body =
        inr (
          subst (λ (s : ℕ). IsFalse (has_no_body s)) (sym h.status_is) h.body,
          subst (λ (f : Option Framing). IsSomeAnd f (λ g. HasBodyWithin limit g rest ended body)) (sym h.framing_is) b,
        );
  }

  -- with a broken one, it is broken
  pub framed_breaks : (ended : Bool) (cause : WireEnd) → BreaksBodyWithin limit framing (body_place skipped head) rest ended cause → BreaksWithin limit read ended cause
  framed_breaks ended cause b =
      bad_body read rest ended skipped head cause h.begins h.sound h.body
      (subst (λ (f : Option Framing). IsSomeAnd f (λ g. BreaksBodyWithin limit g (body_place skipped head) rest ended cause)) (sym h.framing_is) b)

  -- with a part of it, it is open
  pub framed_open : (open_body : OpenBody) (ended : Bool) (given : List ℕ) → open_body.status ≡ status → open_body.stock.ended ≡ ended → is_done open_body.rest ≡ false
      → place open_body.stock + length (left open_body.stock) ≡ length read
      → IsGiven limit open_body.rest (framing_of head.fields) (body_place skipped head) rest given (left open_body.stock) → IsOpenWithin limit open_body read ended given
  framed_open open_body ended given same over more placed so_far = record {
    small = h.small;
    skipped = skipped;
    head = head;
    rest = rest;
    begins = h.begins;
    final = h.final;
    sound = h.sound;
    status_is = same ∙ h.status_is;
    ended_is = over;
    has_body = λ (o : is_done open_body.rest ≡ false). h.body;
    place_is = λ (o : is_done open_body.rest ≡ false). placed;
    so_far = so_far;
    whole = λ (o : is_done open_body.rest ≡ true). absurd (true≢false (sym o ∙ more));
  }
