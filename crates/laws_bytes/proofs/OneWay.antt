-- Bytes that are no response to a request are it in one way at most.
use Rattle.std.proofs.Common.{◌≡◌, ◌⊎◌, ℕ, ◌+◌, ◌≤◌, Bool, true, false, ◌||◌, ◌==◌, List, [], ◌∷◌, ◌++◌, length, take, Option, Some, None, refl, sym, ap, ◌∙◌, subst, inl, inr, arith, append_assoc, true≢false}
use Rattle.std.proofs.lemmas.List.{append-nil, length-append}
use Rattle.std.proofs.lemmas.List.Elements.{All-head, All-tail}
use Rattle.std.specs.Prelude.{All, IsFalse, IsSomeAnd, IsTrue}
use Rattle.tree_base.specs.Limits.{most_head_bytes, most_header_lines}
use Rattle.engine_types.specs.declared.Request.{Request}
use Rattle.engine_types.specs.declared.WireEnd.{WireEnd}
use Rattle.httparse.proofs.GrammarLemmas.{response_unique}
use Rattle.httparse.specs.Grammar.{HasNoResponse, IsResponseHead, ResponseHead, print_response, status_code}
use Rattle.response_laws.proofs.Excluding.{not_few, whole_is_not_broken}
use Rattle.response_laws.proofs.Printed.{head_ends}
use Rattle.response_rules.specs.Broken.{HasBadBody, HasManyValues, IsBroken}
use Rattle.response_rules.specs.Heads.{Framing, chunked, fault_by, framing_of, has_no_body, head_fault, is_encoded, is_interim, sized, to_end}
use Rattle.response_rules.specs.Lines.{Part, ends, head_part, passed, unfinished}
use Rattle.response_rules.specs.Responses.{BeginsWithHead, Breaks, BreaksBody, IsSkipped, Skips, bad_body, bad_fields, bad_head, long_head, no_head, print_heads}
use Rattle.laws_bytes.proofs.OneWayChunks.{chunks_one_way, ends_once, taken}

-- ---- what stands behind the heads that are skipped

-- the head that stands there has wrong fields, or its body is broken
abbrev Fails : ℕ → ResponseHead → List ℕ → Bool → WireEnd → Type 0
Fails before head rest ended cause =
    (head_fault before head.fields ≡ Some cause)
    ⊎ ((head_fault 0 head.fields ≡ None) × IsFalse (has_no_body (status_code head))
    × IsSomeAnd (framing_of head.fields) (λ f. BreaksBody f (before + length (print_response head)) rest ended cause))

record Stands (before : ℕ) (tail : List ℕ) (ended : Bool) (cause : WireEnd) : Type 0 where
  head : ResponseHead
  rest : List ℕ
  is_head : IsResponseHead head
  few : length head.fields ≤ most_header_lines
  within : before + length (print_response head) ≤ most_head_bytes
  reads : tail ≡ print_response head ++ rest
  fails : Fails before head rest ended cause

abbrev HeadMeans : ℕ → List ℕ → Bool → WireEnd → Part → Type 0
HeadMeans before tail ended cause unfinished = cause ≡ WireEnd.Ended
HeadMeans before tail ended cause passed = cause ≡ WireEnd.TooLarge
HeadMeans before tail ended cause (ends n) = (HasNoResponse (take n tail) × (cause ≡ WireEnd.Malformed before)) ⊎ Stands before tail ended cause

record Found (read : List ℕ) (ended : Bool) (cause : WireEnd) : Type 0 where
  skipped : List ResponseHead
  tail : List ℕ
  skips : Skips read skipped tail
  means : HeadMeans (length (print_heads skipped)) tail ended cause (head_part (length (print_heads skipped)) tail)

stands : (read rest : List ℕ) (ended : Bool) (skipped : List ResponseHead) (head : ResponseHead) (cause : WireEnd) → BeginsWithHead read skipped head rest
    → Fails (length (print_heads skipped)) head rest ended cause → Found read ended cause
stands read rest ended skipped head cause b fails =
    record {
      skipped = skipped;
      tail = print_response head ++ rest;
      skips = b.skips;
      means = subst (λ (p : Part). HeadMeans (length (print_heads skipped)) (print_response head ++ rest) ended cause p)
          (sym (head_ends head rest b.is_head (length (print_heads skipped)) b.few b.within))
          (inr (record { head = head; rest = rest; is_head = b.is_head; few = b.few; within = b.within; reads = refl; fails = fails }));
    }

found : (read : List ℕ) (ended : Bool) (cause : WireEnd) → Breaks read ended cause → Found read ended cause
found read ended cause (no_head _ tail _ skipped skips part over) = record {
  skipped = skipped;
  tail = tail;
  skips = skips;
  means = subst (λ (p : Part). HeadMeans (length (print_heads skipped)) tail ended WireEnd.Ended p) (sym part) refl;
}
found read ended cause (long_head _ tail _ skipped skips part) = record {
  skipped = skipped;
  tail = tail;
  skips = skips;
  means = subst (λ (p : Part). HeadMeans (length (print_heads skipped)) tail ended WireEnd.TooLarge p) (sym part) refl;
}
found read ended cause (bad_head _ tail _ skipped n skips part none) = record {
  skipped = skipped;
  tail = tail;
  skips = skips;
  means = subst (λ (p : Part). HeadMeans (length (print_heads skipped)) tail ended (WireEnd.Malformed (length (print_heads skipped))) p) (sym part) (inl (none, refl));
}
found read ended cause (bad_fields _ rest _ skipped head _ begins fault) = stands read rest ended skipped head cause begins (inl fault)
found read ended cause (bad_body _ rest _ skipped head _ begins sound some breaks) =
    stands read rest ended skipped head cause begins (inr (sound, some, breaks))

-- ---- in one place, one cause

-- a head without fault has none at any place
sound_at : (at : ℕ) (f : Option Framing) (encoded : Bool) → fault_by 0 f encoded ≡ None → fault_by at f encoded ≡ None
sound_at at None encoded e = absurd (cc e)
sound_at at (Some f) true e = absurd (cc e)
sound_at at (Some to_end) false e = refl
sound_at at (Some (sized n)) false e = e
sound_at at (Some chunked) false e = refl

no_fault : (before : ℕ) (head : ResponseHead) (cause : WireEnd) → head_fault 0 head.fields ≡ None → head_fault before head.fields ≡ Some cause → ⊥
no_fault before head cause sound fault =
    let none : head_fault before head.fields ≡ None = sound_at before (framing_of head.fields) (is_encoded head.fields) sound in
    let other : None ≡ Some cause = sym none ∙ fault in cc other

one_body_cause : (framing : Option Framing) (at : ℕ) (bytes : List ℕ) (ended : Bool) (cause other : WireEnd)
    → IsSomeAnd framing (λ f. BreaksBody f at bytes ended cause) → IsSomeAnd framing (λ f. BreaksBody f at bytes ended other) → cause ≡ other
one_body_cause None at bytes ended cause other h k = absurd h
one_body_cause (Some to_end) at bytes ended cause other h k = h.1 ∙ sym k.1
one_body_cause (Some (sized n)) at bytes ended cause other h k = h.2 ∙ sym k.2
one_body_cause (Some chunked) at bytes ended cause other h k = chunks_one_way at bytes ended cause other h k

one_fault : (before : ℕ) (head : ResponseHead) (rest : List ℕ) (ended : Bool) (cause other : WireEnd) → Fails before head rest ended cause
    → Fails before head rest ended other → cause ≡ other
one_fault before head rest ended cause other (inl h) (inl k) = let same : Some cause ≡ Some other = sym h ∙ k in cc same
one_fault before head rest ended cause other (inl h) (inr k) = absurd (no_fault before head cause k.0 h)
one_fault before head rest ended cause other (inr h) (inl k) = absurd (no_fault before head other h.0 k)
one_fault before head rest ended cause other (inr h) (inr k) =
    one_body_cause (framing_of head.fields) (before + length (print_response head)) rest ended cause other h.2 k.2

head_there : (before : ℕ) (tail : List ℕ) (head : ResponseHead) (rest : List ℕ) (n : ℕ) → IsResponseHead head → length head.fields ≤ most_header_lines
    → before + length (print_response head) ≤ most_head_bytes → tail ≡ print_response head ++ rest → head_part before tail ≡ ends n → HasNoResponse (take n tail) → ⊥
head_there before tail head rest n is few within reads e none =
    let part : head_part before tail ≡ ends (length (print_response head)) = ap (head_part before) reads ∙ head_ends head rest is before few within in
    let one : n ≡ length (print_response head) = ends_once (head_part before tail) (length (print_response head)) n part e in
    none head [] (is, ap (take n) reads ∙ taken n (print_response head) rest one ∙ sym (append-nil (print_response head)))

one_head_cause : (before : ℕ) (tail : List ℕ) (ended : Bool) (cause other : WireEnd) (part : Part) → head_part before tail ≡ part
    → HeadMeans before tail ended cause part → HeadMeans before tail ended other part → cause ≡ other
one_head_cause before tail ended cause other unfinished e h k = h ∙ sym k
one_head_cause before tail ended cause other passed e h k = h ∙ sym k
one_head_cause before tail ended cause other (ends n) e (inl h) (inl k) = h.1 ∙ sym k.1
one_head_cause before tail ended cause other (ends n) e (inl h) (inr k) = absurd (head_there before tail k.head k.rest n k.is_head k.few k.within k.reads e h.0)
one_head_cause before tail ended cause other (ends n) e (inr h) (inl k) = absurd (head_there before tail h.head h.rest n h.is_head h.few h.within h.reads e k.0)
one_head_cause before tail ended cause other (ends n) e (inr h) (inr k) =
    let same = response_unique tail h.head k.head h.rest k.rest (h.is_head, h.reads) (k.is_head, k.reads) in
    one_fault before k.head k.rest ended cause other
    (subst (λ (t : List ℕ). Fails before k.head t ended cause) same.1 (subst (λ (one : ResponseHead). Fails before one h.rest ended cause) same.0 h.fails)) k.fails

-- ---- skipped heads in front of it

-- one more head that is skipped stands there, within the limit
record Further (before : ℕ) (tail : List ℕ) : Type 0 where
  head : ResponseHead
  more : List ℕ
  is : IsSkipped head
  within : before + length (print_response head) ≤ most_head_bytes
  reads : tail ≡ print_response head ++ more

not_further : (before : ℕ) (tail : List ℕ) (ended : Bool) (cause : WireEnd) → Further before tail → HeadMeans before tail ended cause (head_part before tail) → ⊥
not_further before tail ended cause g means = by (subst (λ (p : Part). HeadMeans before tail ended cause p) part means)
  where
    part : head_part before tail ≡ ends (length (print_response g.head))
    part = ap (head_part before) g.reads ∙ head_ends g.head g.more g.is.is_head before g.is.few g.within

    same : (s : Stands before tail ended cause) → g.head ≡ s.head
    same s = (response_unique tail g.head s.head g.more s.rest (g.is.is_head, g.reads) (s.is_head, s.reads)).0

    fails : (s : Stands before tail ended cause) → Fails before s.head s.rest ended cause → ⊥
    fails s (inl fault) = no_fault before s.head cause (subst (λ (h : ResponseHead). head_fault 0 h.fields ≡ None) (same s) g.is.sound) fault
    fails s (inr broken) =
        let interim : IsTrue (is_interim (status_code s.head)) = subst (λ (h : ResponseHead). IsTrue (is_interim (status_code h))) (same s) g.is.interim in
        let none : IsTrue (has_no_body (status_code s.head)) = ap (λ (b : Bool). b || (status_code s.head == 204 || status_code s.head == 304)) interim in
        true≢false (sym none ∙ broken.1)

    by : HeadMeans before tail ended cause (ends (length (print_response g.head))) → ⊥
    by (inl h) = head_there before tail g.head g.more (length (print_response g.head)) g.is.is_head g.is.few g.within g.reads part h.0
    by (inr s) = fails s s.fails

heads_cons : (h : ResponseHead) (hs : List ResponseHead) (rest : List ℕ) → print_heads (h ∷ hs) ++ rest ≡ print_response h ++ (print_heads hs ++ rest)
heads_cons h hs rest = append_assoc (print_response h) (print_heads hs) rest

heads_length : (h : ResponseHead) (hs : List ResponseHead) → length (print_heads (h ∷ hs)) ≡ length (print_response h) + length (print_heads hs)
heads_length h hs = length-append (print_response h) (print_heads hs)

-- skipped heads that stand in front of something, behind others
record InFront (read : List ℕ) (before : ℕ) (heads : List ResponseHead) (tail : List ℕ) : Type 0 where
  each : All IsSkipped heads
  within : before + length (print_heads heads) ≤ most_head_bytes
  reads : read ≡ print_heads heads ++ tail

-- two ways to skip heads are one, or one of them goes on with a head that is skipped
abbrev Compared : ℕ → List ResponseHead → List ℕ → List ResponseHead → List ℕ → Type 0
Compared before heads tail others other_tail =
    ((length (print_heads heads) ≡ length (print_heads others)) × (tail ≡ other_tail))
    ⊎ (Further (before + length (print_heads heads)) tail ⊎ Further (before + length (print_heads others)) other_tail)

goes_on : (read : List ℕ) (before : ℕ) (h : ResponseHead) (hs : List ResponseHead) (tail other : List ℕ) → InFront read before (h ∷ hs) tail → read ≡ other
    → Further (before + length (print_heads [])) other
goes_on read before h hs tail other p e =
    let w = p.within in
    let l = heads_length h hs in
    let z : length (print_heads []) ≡ 0 = refl in record {
      head = h;
      more = print_heads hs ++ tail;
      is = All-head IsSkipped h hs p.each;
      within = omega (arith, w, l, z);
      reads = sym e ∙ p.reads ∙ heads_cons h hs tail;
    }

compare : (read : List ℕ) (before : ℕ) (heads : List ResponseHead) (tail : List ℕ) (others : List ResponseHead) (other_tail : List ℕ)
    → InFront read before heads tail → InFront read before others other_tail → Compared before heads tail others other_tail
compare read before [] tail [] other_tail p q = inl (refl, sym p.reads ∙ q.reads)
compare read before [] tail (o ∷ more) other_tail p q = inr (inl (goes_on read before o more other_tail tail q p.reads))
compare read before (h ∷ hs) tail [] other_tail p q = inr (inr (goes_on read before h hs tail other_tail p q.reads))
compare read before (h ∷ hs) tail (o ∷ more) other_tail p q =
    by (compare (print_heads hs ++ tail) (before + length (print_response h)) hs tail more other_tail inner other_inner)
  where
    same : (h ≡ o) × (print_heads hs ++ tail ≡ print_heads more ++ other_tail)
    same =
        response_unique read h o (print_heads hs ++ tail) (print_heads more ++ other_tail)
        ((All-head IsSkipped h hs p.each).is_head, p.reads ∙ heads_cons h hs tail) ((All-head IsSkipped o more q.each).is_head, q.reads ∙ heads_cons o more other_tail)

    as_long : length (print_response h) ≡ length (print_response o)
    as_long = ap (λ (one : ResponseHead). length (print_response one)) same.0

    inner : InFront (print_heads hs ++ tail) (before + length (print_response h)) hs tail
    inner = record {
      each = All-tail IsSkipped h hs p.each;
      within = let w = p.within in let l = heads_length h hs in omega (arith, w, l);
      reads = refl;
    }

    other_inner : InFront (print_heads hs ++ tail) (before + length (print_response h)) more other_tail
    other_inner = record {
      each = All-tail IsSkipped o more q.each;
      within = let w = q.within in let l = heads_length o more in let s = as_long in omega (arith, w, l, s);
      reads = same.1;
    }

    by : Compared (before + length (print_response h)) hs tail more other_tail → Compared before (h ∷ hs) tail (o ∷ more) other_tail
    by (inl s) = let a = s.0 in let l = heads_length h hs in let m = heads_length o more in let n = as_long in inl (omega (arith, a, l, m, n), s.1)
    by (inr (inl f)) =
        let e : before + length (print_response h) + length (print_heads hs) ≡ before + length (print_heads (h ∷ hs)) = (let l = heads_length h hs in omega (arith, l)) in
        inr (inl (subst (λ (n : ℕ). Further n tail) e f))
    by (inr (inr f)) =
        let e : before + length (print_response h) + length (print_heads more) ≡ before + length (print_heads (o ∷ more)) =
        (let l = heads_length o more in let s = as_long in omega (arith, l, s)) in
        inr (inr (subst (λ (n : ℕ). Further n other_tail) e f))

-- ---- bytes

in_front : (read : List ℕ) (skipped : List ResponseHead) (tail : List ℕ) → Skips read skipped tail → InFront read 0 skipped tail
in_front read skipped tail s = record { each = s.each; within = let w = s.within in omega (arith, w); reads = s.reads }

not_behind : (read : List ℕ) (ended : Bool) (cause : WireEnd) (f : Found read ended cause) → Further (0 + length (print_heads f.skipped)) f.tail → ⊥
not_behind read ended cause f g =
    let none : 0 + length (print_heads f.skipped) ≡ length (print_heads f.skipped) = omega arith in
    not_further (length (print_heads f.skipped)) f.tail ended cause (subst (λ (n : ℕ). Further n f.tail) none g) f.means

pub breaks_one_way : (read : List ℕ) (ended : Bool) (cause other : WireEnd) → Breaks read ended cause → Breaks read ended other → cause ≡ other
breaks_one_way read ended cause other b d = by (compare read 0 f.skipped f.tail g.skipped g.tail (in_front read f.skipped f.tail f.skips) (in_front read g.skipped g.tail g.skips))
  where
    f : Found read ended cause
    f = found read ended cause b

    g : Found read ended other
    g = found read ended other d

    by : Compared 0 f.skipped f.tail g.skipped g.tail → cause ≡ other
    by (inl s) =
        one_head_cause (length (print_heads f.skipped)) f.tail ended cause other (head_part (length (print_heads f.skipped)) f.tail) refl f.means
        (subst (λ (n : ℕ). HeadMeans n f.tail ended other (head_part n f.tail)) (sym s.0)
        (subst (λ (t : List ℕ). HeadMeans (length (print_heads g.skipped)) t ended other (head_part (length (print_heads g.skipped)) t)) (sym s.1) g.means))
    by (inr (inl h)) = absurd (not_behind read ended cause f h)
    by (inr (inr h)) = absurd (not_behind read ended other g h)

-- bytes that are no response, or begin with one that gives no reply: by the cause
abbrev IsNoReply : Request → WireEnd → List ℕ → Bool → Type 0
IsNoReply request cause read ended =
    Breaks read ended cause
    ⊎ (((cause ≡ WireEnd.BadBody) × HasBadBody request read ended) ⊎ ((cause ≡ WireEnd.TooLarge) × HasManyValues request read ended))

no_reply : (request : Request) (read : List ℕ) (ended : Bool) (cause : WireEnd) → IsBroken request cause read ended → IsNoReply request cause read ended
no_reply request read ended WireEnd.Fault b = absurd b
no_reply request read ended WireEnd.BadBody b = inr (inl (refl, b))
no_reply request read ended WireEnd.Ended b = inl b
no_reply request read ended (WireEnd.Malformed at) b = inl b
no_reply request read ended WireEnd.Encoded b = inl b
no_reply request read ended WireEnd.TooLarge (inl b) = inl b
no_reply request read ended WireEnd.TooLarge (inr m) = inr (inr (refl, m))

no_reply_one_way : (request : Request) (read : List ℕ) (ended : Bool) (cause other : WireEnd) → IsNoReply request cause read ended → IsNoReply request other read ended → cause ≡ other
no_reply_one_way request read ended cause other (inl b) (inl d) = breaks_one_way read ended cause other b d
no_reply_one_way request read ended cause other (inl b) (inr (inl d)) = absurd (whole_is_not_broken read ended d.1.status d.1.body cause d.1.response b)
no_reply_one_way request read ended cause other (inl b) (inr (inr d)) = absurd (whole_is_not_broken read ended d.1.status d.1.body cause d.1.response b)
no_reply_one_way request read ended cause other (inr (inl b)) (inl d) = absurd (whole_is_not_broken read ended b.1.status b.1.body other b.1.response d)
no_reply_one_way request read ended cause other (inr (inr b)) (inl d) = absurd (whole_is_not_broken read ended b.1.status b.1.body other b.1.response d)
no_reply_one_way request read ended cause other (inr (inl b)) (inr (inl d)) = b.0 ∙ sym d.0
no_reply_one_way request read ended cause other (inr (inr b)) (inr (inr d)) = b.0 ∙ sym d.0
no_reply_one_way request read ended cause other (inr (inl b)) (inr (inr d)) = absurd (not_few request read ended b.1.status b.1.body b.1.response b.1.few d.1)
no_reply_one_way request read ended cause other (inr (inr b)) (inr (inl d)) = absurd (not_few request read ended d.1.status d.1.body d.1.response d.1.few b.1)

pub broken_one_way : (request : Request) (read : List ℕ) (ended : Bool) (cause other : WireEnd) → IsBroken request cause read ended → IsBroken request other read ended → cause ≡ other
broken_one_way request read ended cause other b d =
    no_reply_one_way request read ended cause other (no_reply request read ended cause b) (no_reply request read ended other d)
