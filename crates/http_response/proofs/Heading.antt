-- Heads that are skipped, the head behind them, and the ways in which they are broken.
use Rattle.std.proofs.Common.{◌≡◌, ◌⊎◌, ℕ, ◌+◌, ◌<◌, ◌≤◌, Bool, true, false, nat_lt, if◌then◌else◌, List, [], ◌∷◌, ◌++◌, length, take, drop, Option, Some, None, refl, sym, ap, ◌∙◌, subst, inl, inr, arith, append_assoc}
use Rattle.std.proofs.lemmas.List.{append-nil, length-append, take-append-drop}
use Rattle.std.proofs.lemmas.List.Elements.{All-push}
use Rattle.std.specs.Prelude.{Err}
use Rattle.tree_base.specs.Limits.{most_head_bytes, most_header_lines}
use Rattle.engine_types.specs.declared.WireEnd.{WireEnd}
use Rattle.httparse.specs.Grammar.{HasNoResponse, IsResponseHead, NeverHasResponse, ResponseHead, print_response}
use Rattle.httparse.specs.Spans.{ResponseExceeds}
use Rattle.response_rules.specs.Heads.{Framing, chunked, fault_within, framing_of, head_fault_within, is_encoded, sized, to_end}
use Rattle.response_rules.specs.Lines.{Part, ends, head_part, passed}
use Rattle.response_rules.specs.Responses.{BeginsWithHeadWithin, BreaksWithin, IsSkippedWithin, SkipsWithin, bad_fields, bad_head, long_head, no_head, print_heads}
use Rattle.http_response.specs.Found.{BreaksBehind, ParsedBy}
use Rattle.http_response.specs.Stocks.{MissesEnd}
use Rattle.http_response.proofs.Overflowing.{head_over}

-- ---- skipped heads

pub skips_more : (limit : ℕ) (read tail more : List ℕ) (heads : List ResponseHead) → SkipsWithin limit read heads tail → SkipsWithin limit (read ++ more) heads (tail ++ more)
skips_more limit read tail more heads s = record {
  each = s.each;
  within = s.within;
  reads = ap (λ (r : List ℕ). r ++ more) s.reads ∙ append_assoc (print_heads heads) tail more;
}

heads_join : (heads : List ResponseHead) (h : ResponseHead) → print_heads (heads ++ h ∷ []) ≡ print_heads heads ++ print_response h
heads_join [] h = append-nil (print_response h)
heads_join (g ∷ heads) h = ap (λ (m : List ℕ). print_response g ++ m) (heads_join heads h) ∙ sym (append_assoc (print_response g) (print_heads heads) (print_response h))

pub skips_nothing : (limit : ℕ) (read : List ℕ) → SkipsWithin limit read [] read
skips_nothing limit read = record { each = λ (k : ℕ) (d : ResponseHead) (l : k < 0). absurd (omega arith); within = omega arith; reads = refl }

pub skips_on : (limit : ℕ) (read tail rest : List ℕ) (heads : List ResponseHead) (h : ResponseHead) → SkipsWithin limit read heads tail → IsSkippedWithin limit h → tail ≡ print_response h ++ rest
    → length (print_heads heads) + length (print_response h) ≤ most_head_bytes
    → SkipsWithin limit read (heads ++ h ∷ []) rest × (length (print_heads (heads ++ h ∷ [])) ≡ length (print_heads heads) + length (print_response h))
skips_on limit read tail rest heads h s is e within =
    let long : length (print_heads (heads ++ h ∷ [])) ≡ length (print_heads heads) + length (print_response h) =
    ap length (heads_join heads h) ∙ length-append (print_heads heads) (print_response h) in (
      record {
        each = All-push (IsSkippedWithin limit) heads h s.each is;
        within = omega (arith, long, within);
        reads =
            s.reads ∙ ap (λ (t : List ℕ). print_heads heads ++ t) e ∙ sym (append_assoc (print_heads heads) (print_response h) rest)
            ∙ ap (λ (p : List ℕ). p ++ rest) (sym (heads_join heads h));
      },
      long,
    )

-- the head stands behind the skipped ones
pub begins : (limit : ℕ) (read tail rest : List ℕ) (heads : List ResponseHead) (h : ResponseHead) (before : ℕ) → SkipsWithin limit read heads tail → length (print_heads heads) ≡ before
    → IsResponseHead h → tail ≡ print_response h ++ rest → length h.fields ≤ most_header_lines → before + length (print_response h) ≤ most_head_bytes
    → BeginsWithHeadWithin limit read heads h rest
begins limit read tail rest heads h before s l is e few within = record {
  skips = subst (λ (t : List ℕ). SkipsWithin limit read heads t) e s;
  is_head = is;
  few = few;
  within = omega (arith, l, within);
}

pub head_some : (h : ResponseHead) → 0 < length (print_response h)
unfolding print_response
head_some h = simp length-append (omega arith)

-- ---- refusals

-- the end of a head isn't there
pub misses : (limit before : ℕ) (bytes : List ℕ) (ended : Bool) (cause : WireEnd) → MissesEnd (head_part before bytes) ended cause → BreaksBehind limit before bytes ended cause
misses limit before bytes ended WireEnd.Ended m = λ (read : List ℕ) (heads : List ResponseHead) (s : SkipsWithin limit read heads bytes) (l : length (print_heads heads) ≡ before).
    no_head read bytes ended heads s (ap (λ (n : ℕ). head_part n bytes) l ∙ m.0) m.1
misses limit before bytes ended WireEnd.TooLarge m = λ (read : List ℕ) (heads : List ResponseHead) (s : SkipsWithin limit read heads bytes) (l : length (print_heads heads) ≡ before).
    long_head read bytes ended heads s (ap (λ (n : ℕ). head_part n bytes) l ∙ m)
misses limit before bytes ended (WireEnd.Malformed at) m = absurd m
misses limit before bytes ended WireEnd.Encoded m = absurd m
misses limit before bytes ended WireEnd.Fault m = absurd m
misses limit before bytes ended WireEnd.BadBody m = absurd m

-- bytes up to the end of a head that are no head
pub no_head_there : (limit : ℕ) (tail bytes : List ℕ) (before n : ℕ) → head_part before tail ≡ ends n → bytes ≡ take n tail → HasNoResponse bytes → ParsedBy limit tail before (Err (WireEnd.Malformed before))
no_head_there limit tail bytes before n part is none =
    λ (ended : Bool) (read : List ℕ) (heads : List ResponseHead) (s : SkipsWithin limit read heads tail) (l : length (print_heads heads) ≡ before).
    subst (λ (m : ℕ). BreaksWithin limit read ended (WireEnd.Malformed m)) l
    (bad_head read tail ended heads n s (ap (λ (m : ℕ). head_part m tail) l ∙ part) (subst HasNoResponse is none))

pub never_there : (bytes : List ℕ) → NeverHasResponse bytes → HasNoResponse bytes
never_there bytes never = subst HasNoResponse (append-nil bytes) (never [])

ends_passed : (part : Part) (n : ℕ) → part ≡ ends n → part ≡ passed → ⊥
ends_passed part n e f = let other : ends n ≡ passed = sym e ∙ f in cc other

-- more header lines than there is room for never come
pub not_too_many : (tail bytes : List ℕ) (before n : ℕ) → head_part before tail ≡ ends n → bytes ≡ take n tail → ResponseExceeds most_header_lines bytes → ⊥
not_too_many tail bytes before n part is (front, rest, cut, h, reads, many) =
    let whole : tail ≡ (front ++ rest) ++ drop n tail = sym (take-append-drop n tail) ∙ ap (λ (b : List ℕ). b ++ drop n tail) (sym is ∙ cut) in
    ends_passed (head_part before tail) n part (ap (head_part before) whole ∙ head_over h front rest (drop n tail) before reads.0 many reads.1)

-- ---- the head that was read

long_by : (v : Bool) (cause : WireEnd) → (if v then Some WireEnd.TooLarge else None) ≡ Some cause → cause ≡ WireEnd.TooLarge
long_by true cause e = let back : Some cause ≡ Some WireEnd.TooLarge = sym e in cc back
long_by false cause e = absurd (cc e)

pub sound_anywhere : (limit at : ℕ) (f : Option Framing) (encoded : Bool) → fault_within limit at f encoded ≡ None → fault_within limit 0 f encoded ≡ None
sound_anywhere limit at None encoded e = absurd (cc e)
sound_anywhere limit at (Some f) true e = absurd (cc e)
sound_anywhere limit at (Some to_end) false e = refl
sound_anywhere limit at (Some (sized n)) false e = e
sound_anywhere limit at (Some chunked) false e = refl

no_such_fault : (limit at : ℕ) (f : Option Framing) (encoded : Bool) (cause : WireEnd) → (cause ≡ WireEnd.Fault) ⊎ (cause ≡ WireEnd.BadBody) → fault_within limit at f encoded ≡ Some cause → ⊥
no_such_fault limit at None encoded cause (inl c) e = let f : Some (WireEnd.Malformed at) ≡ Some WireEnd.Fault = e ∙ ap Some c in cc f
no_such_fault limit at None encoded cause (inr c) e = let f : Some (WireEnd.Malformed at) ≡ Some WireEnd.BadBody = e ∙ ap Some c in cc f
no_such_fault limit at (Some g) true cause (inl c) e = let f : Some WireEnd.Encoded ≡ Some WireEnd.Fault = e ∙ ap Some c in cc f
no_such_fault limit at (Some g) true cause (inr c) e = let f : Some WireEnd.Encoded ≡ Some WireEnd.BadBody = e ∙ ap Some c in cc f
no_such_fault limit at (Some to_end) false cause c e = cc e
no_such_fault limit at (Some chunked) false cause c e = cc e
no_such_fault limit at (Some (sized n)) false cause (inl c) e = let f : WireEnd.Fault ≡ WireEnd.TooLarge = sym c ∙ long_by (nat_lt limit n) cause e in cc f
no_such_fault limit at (Some (sized n)) false cause (inr c) e = let f : WireEnd.BadBody ≡ WireEnd.TooLarge = sym c ∙ long_by (nat_lt limit n) cause e in cc f

module _ (limit : ℕ) (tail rest : List ℕ) (before : ℕ) (h : ResponseHead) (is : IsResponseHead h) (e : tail ≡ print_response h ++ rest) (few : length h.fields ≤ most_header_lines) (within : before + length (print_response h) ≤ most_head_bytes) where
  faulty : (cause : WireEnd) → head_fault_within limit before h.fields ≡ Some cause → (ended : Bool) → BreaksBehind limit before tail ended cause
  faulty cause f ended = λ (read : List ℕ) (heads : List ResponseHead) (s : SkipsWithin limit read heads tail) (l : length (print_heads heads) ≡ before).
      bad_fields read rest ended heads h cause (begins limit read tail rest heads h before s l is e few within)
      (ap (λ (n : ℕ). head_fault_within limit n h.fields) l ∙ f)

  pub bad_fields_there : (cause : WireEnd) → head_fault_within limit before h.fields ≡ Some cause → ParsedBy limit tail before (Err cause)
  bad_fields_there WireEnd.Fault f = no_such_fault limit before (framing_of h.fields) (is_encoded h.fields) WireEnd.Fault (inl refl) f
  bad_fields_there WireEnd.BadBody f = no_such_fault limit before (framing_of h.fields) (is_encoded h.fields) WireEnd.BadBody (inr refl) f
  bad_fields_there WireEnd.Ended f = faulty WireEnd.Ended f
  bad_fields_there (WireEnd.Malformed at) f = faulty (WireEnd.Malformed at) f
  bad_fields_there WireEnd.Encoded f = faulty WireEnd.Encoded f
  bad_fields_there WireEnd.TooLarge f = faulty WireEnd.TooLarge f
