-- The values of fields, by the spans of a head.
use Rattle.std.proofs.Common.{◌≡◌, ◌⊎◌, ℕ, ◌<◌, ◌≤◌, ◌^◌, Bool, true, false, not, cond, ◌&&◌, ◌||◌, ◌==◌, nat_lt, min, if◌then◌else◌, List, [], ◌∷◌, length, map, Option, Some, None, codes, refl, sym, ap, ◌∙◌, subst, inl, inr, arith, true≢false}
use Rattle.std.proofs.lemmas.Bool.{le-ltb, lt-ltb, ltb-false, cases_lt}
use Rattle.std.proofs.lemmas.List.Elements.{All-head, All-tail}
use Rattle.std.proofs.lemmas.Slice.Eq.{bytes_eq-Decides}
use Rattle.std.specs.Char.{to_ascii_lowercase}
use Rattle.std.specs.List.{filter, list_all, list_any}
use Rattle.std.specs.Prelude.{IsTrue, ◌↔◌, Result}
use Rattle.std.specs.Str.{str_eq_ignore_ascii_case}
use Rattle.std.specs.Str.Parse.{digits_value}
use Rattle.engine_types.specs.declared.WireEnd.{WireEnd}
use Rattle.httparse.specs.Grammar.{Field, field_value}
use Rattle.httparse.specs.Spans.{IsHeaderWithin, header_bytes, name_and_value, span_bytes}
use Rattle.httparse.specs.declared.spans.HeaderSpan.{HeaderSpan}
use Rattle.response_rules.specs.Heads.{Framing, chunked, fault_within, framing, framing_of, is_encoded, is_length, sized, to_end, values}
use Rattle.http_fields.specs.Fields.{AreWithin, Cover, FramingBy, IsFirst, capped, framing_told, is_past_limit, named, values_at}
use Rattle.http_fields.specs.declared.fields.Framing.{Framing as ReadFraming}

-- ---- names

same_test : (P : Type 0) (r b : Bool) → (r ≡ true → P) → (P → r ≡ true) → (b ≡ true → P) → (P → b ≡ true) → r ≡ b
same_test P true true rp pr bp pb = refl
same_test P false false rp pr bp pb = refl
same_test P true false rp pr bp pb = sym (pb (rp refl))
same_test P false true rp pr bp pb = pr (bp refl)

pub same_case : (r : Bool) (text other : List ℕ) → (IsTrue r ↔ (map to_ascii_lowercase text ≡ map to_ascii_lowercase other)) → r ≡ str_eq_ignore_ascii_case text other
same_case r text other h =
    let d = bytes_eq-Decides (map to_ascii_lowercase text) (map to_ascii_lowercase other) in
    same_test (map to_ascii_lowercase text ≡ map to_ascii_lowercase other) r (str_eq_ignore_ascii_case text other) h.0 h.1 d.0 d.1

-- ---- values

values_named : (name : List ℕ) (fields : List Field) → named name (map name_and_value fields) ≡ values name fields
values_named name [] = refl
values_named name (f ∷ fields) = at (str_eq_ignore_ascii_case f.name name) (values_named name fields)
  where
    at : (v : Bool) → named name (map name_and_value fields) ≡ values name fields
        → map (λ (pair : List ℕ × List ℕ). pair.1) (cond v ((f.name, field_value f) ∷ filter (λ (pair : List ℕ × List ℕ). str_eq_ignore_ascii_case pair.0 name) (map name_and_value fields)) (filter (λ (pair : List ℕ × List ℕ). str_eq_ignore_ascii_case pair.0 name) (map name_and_value fields)))
        ≡ map field_value (cond v (f ∷ filter (λ (g : Field). str_eq_ignore_ascii_case g.name name) fields) (filter (λ (g : Field). str_eq_ignore_ascii_case g.name name) fields))
    at true e = ap (λ (vs : List (List ℕ)). field_value f ∷ vs) e
    at false e = e

-- the values at spans are those of the fields that these cover
pub values_are : (head : List ℕ) (headers : List HeaderSpan) (fields : List Field) (name : List ℕ) → map (header_bytes head) headers ≡ map name_and_value fields
    → values_at head headers name ≡ values name fields
values_are head headers fields name e = ap (named name) e ∙ values_named name fields

next_by : (v : Bool) (value : List ℕ) (pairs : List (List ℕ × List ℕ)) (text name : List ℕ) → str_eq_ignore_ascii_case text name ≡ v
    → named name ((text, value) ∷ pairs) ≡ cond v (value ∷ named name pairs) (named name pairs)
next_by true value pairs text name e =
    ap (λ (t : Bool). map (λ (pair : List ℕ × List ℕ). pair.1) (cond t ((text, value) ∷ filter (λ (pair : List ℕ × List ℕ). str_eq_ignore_ascii_case pair.0 name) pairs) (filter (λ (pair : List ℕ × List ℕ). str_eq_ignore_ascii_case pair.0 name) pairs))) e
next_by false value pairs text name e =
    ap (λ (t : Bool). map (λ (pair : List ℕ × List ℕ). pair.1) (cond t ((text, value) ∷ filter (λ (pair : List ℕ × List ℕ). str_eq_ignore_ascii_case pair.0 name) pairs) (filter (λ (pair : List ℕ × List ℕ). str_eq_ignore_ascii_case pair.0 name) pairs))) e

module _ (head : List ℕ) (headers rest more : List HeaderSpan) (header : HeaderSpan) (name : List ℕ) (cut : rest ≡ header ∷ more) where
  behind : AreWithin head rest → AreWithin head more
  behind all = All-tail (IsHeaderWithin (length head)) header more (subst (AreWithin head) cut all)

  pub first_within : AreWithin head rest → IsHeaderWithin (length head) header
  first_within all = All-head (IsHeaderWithin (length head)) header more (subst (AreWithin head) cut all)

  -- a header with the name is the first
  pub is_first : (value : List ℕ) → str_eq_ignore_ascii_case (span_bytes head header.name) name ≡ true → value ≡ span_bytes head header.value
      → values_at head rest name ≡ values_at head headers name → length rest ≤ length headers → AreWithin head rest → IsFirst head headers name value more
  is_first value holds is same few all = record {
    values_are =
        sym same ∙ ap (λ (hs : List HeaderSpan). values_at head hs name) cut
        ∙ next_by true (span_bytes head header.value) (map (header_bytes head) more) (span_bytes head header.name) name holds
        ∙ ap (λ (v : List ℕ). v ∷ values_at head more name) (sym is);
    fewer = let l = ap length cut in omega (arith, l, few);
    are_within = behind all;
  }

  -- one with another name isn't
  pub is_not_first : str_eq_ignore_ascii_case (span_bytes head header.name) name ≡ false → values_at head rest name ≡ values_at head headers name
      → length rest ≤ length headers → AreWithin head rest
      → (values_at head more name ≡ values_at head headers name) × (length more ≤ length headers) × AreWithin head more
  is_not_first fails same few all = (
    sym (next_by false (span_bytes head header.value) (map (header_bytes head) more) (span_bytes head header.name) name fails)
        ∙ sym (ap (λ (hs : List HeaderSpan). values_at head hs name) cut) ∙ same,
    let l = ap length cut in omega (arith, l, few),
    behind all,
  )

pub none_at : (head : List ℕ) (headers rest : List HeaderSpan) (name : List ℕ) → length rest ≡ 0 → values_at head rest name ≡ values_at head headers name → values_at head headers name ≡ []
none_at head headers [] name e same = sym same
none_at head headers (h ∷ rest) name e same = absurd (omega (arith, e))

-- ---- framing and faults

both_lists : (first : List ℕ) (more : List (List ℕ))
    → list_all (λ value. is_length value && (digits_value 10 value == digits_value 10 first)) more
    ≡ (list_all is_length more && list_all (λ value. digits_value 10 value == digits_value 10 first) more)
both_lists first [] = refl
both_lists first (v ∷ more) = at (is_length v) (digits_value 10 v == digits_value 10 first) (list_all is_length more) (list_all (λ value. digits_value 10 value == digits_value 10 first) more) _ (both_lists first more)
  where
    at : (a b c d e : Bool) → e ≡ (c && d) → ((a && b) && e) ≡ ((a && c) && (b && d))
    at true true c d e h = h
    at true false true d e h = refl
    at true false false d e h = refl
    at false b c d e h = refl

-- the framing of lengths
pub sized_is : (first : List ℕ) (more : List (List ℕ)) (holds : Bool) → is_length first ≡ true
    → holds ≡ list_all (λ value. is_length value && (digits_value 10 value == digits_value 10 first)) more
    → framing [] (first ∷ more) ≡ (if holds then Some (sized (digits_value 10 first)) else None)
sized_is first more holds one e =
    ap (λ (v : Bool). if (v && list_all is_length more) && list_all (λ value. digits_value 10 value == digits_value 10 first) more then Some (sized (digits_value 10 first)) else None) one
    ∙ ap (λ (v : Bool). if v then Some (sized (digits_value 10 first)) else None) (sym (both_lists first more) ∙ sym e)

pub sized_not : (first : List ℕ) (more : List (List ℕ)) → is_length first ≡ false → framing [] (first ∷ more) ≡ None
sized_not first more fails =
    ap (λ (v : Bool). if (v && list_all is_length more) && list_all (λ value. digits_value 10 value == digits_value 10 first) more then Some (sized (digits_value 10 first)) else None) fails

-- a framing that is read has no fault, or its fault is read
pub no_framing : (limit at : ℕ) (found : Option Framing) (encoded : Bool) → None ≡ capped found → fault_within limit at found encoded ≡ Some (WireEnd.Malformed at)
no_framing limit at None encoded e = refl
no_framing limit at (Some to_end) encoded e = absurd (cc e)
no_framing limit at (Some (sized n)) encoded e = absurd (cc e)
no_framing limit at (Some chunked) encoded e = absurd (cc e)

pub encoded_fault : (limit at : ℕ) (found : Option Framing) (f : ReadFraming) → Some f ≡ capped found → fault_within limit at found true ≡ Some WireEnd.Encoded
encoded_fault limit at None f e = absurd (cc e)
encoded_fault limit at (Some g) f e = refl

past_cap : (limit : ℕ) → limit < 2 ^ 62 → (n : ℕ) → nat_lt limit (min n 18446744073709551615) ≡ nat_lt limit n
past_cap limit small n = at (cases_lt limit n)
  where
    at : (limit < n) ⊎ (n ≤ limit) → nat_lt limit (min n 18446744073709551615) ≡ nat_lt limit n
    at (inl over) = lt-ltb limit (min n 18446744073709551615) (omega (arith, small, over)) ∙ sym (lt-ltb limit n over)
    at (inr under) = le-ltb limit (min n 18446744073709551615) (omega (arith, small, under)) ∙ sym (le-ltb limit n under)

pub long_fault : (limit : ℕ) → limit < 2 ^ 62 → (at : ℕ) (found : Option Framing) (f : ReadFraming) → Some f ≡ capped found → is_past_limit limit f ≡ true → fault_within limit at found false ≡ Some WireEnd.TooLarge
long_fault limit small at None f e past = absurd (cc e)
long_fault limit small at (Some to_end) f e past = let same : f ≡ ReadFraming.ToEnd = cc e in absurd (true≢false (sym past ∙ ap (is_past_limit limit) same))
long_fault limit small at (Some chunked) f e past = let same : f ≡ ReadFraming.Chunked = cc e in absurd (true≢false (sym past ∙ ap (is_past_limit limit) same))
long_fault limit small at (Some (sized n)) f e past =
    let same : f ≡ ReadFraming.Sized (min n 18446744073709551615) = cc e in
    ap (λ (v : Bool). if v then Some WireEnd.TooLarge else None) (sym (past_cap limit small n) ∙ sym (ap (is_past_limit limit) same) ∙ past)

pub sound_framing : (limit : ℕ) → limit < 2 ^ 62 → (at : ℕ) (found : Option Framing) (f : ReadFraming) → Some f ≡ capped found → is_past_limit limit f ≡ false
    → (found ≡ Some (framing_told f)) × (fault_within limit at found false ≡ None)
sound_framing limit small at None f e short = absurd (cc e)
sound_framing limit small at (Some to_end) f e short = let same : f ≡ ReadFraming.ToEnd = cc e in (ap (λ (g : ReadFraming). Some (framing_told g)) (sym same), refl)
sound_framing limit small at (Some chunked) f e short = let same : f ≡ ReadFraming.Chunked = cc e in (ap (λ (g : ReadFraming). Some (framing_told g)) (sym same), refl)
sound_framing limit small at (Some (sized n)) f e short =
    let same : f ≡ ReadFraming.Sized (min n 18446744073709551615) = cc e in
    let plain : nat_lt limit n ≡ false = sym (past_cap limit small n) ∙ sym (ap (is_past_limit limit) same) ∙ short in
    let short_length : n ≤ limit = ltb-false limit n plain in
    let kept : min n 18446744073709551615 ≡ n = omega (arith, small, short_length) in (
      sym (ap (λ (g : ReadFraming). Some (framing_told g)) same ∙ ap (λ (m : ℕ). Some (sized m)) kept),
      ap (λ (v : Bool). if v then Some WireEnd.TooLarge else None) plain,
    )

-- ---- the framing that is read, by its parts

pub not_coded : (codings lengths : List (List ℕ)) (r : Option ReadFraming) → codings ≡ [] → r ≡ capped (framing [] lengths) → r ≡ capped (framing codings lengths)
not_coded codings lengths r none e = e ∙ ap (λ (c : List (List ℕ)). capped (framing c lengths)) (sym none)

pub once_coded : (codings more lengths : List (List ℕ)) (coding : List ℕ) (r : Option ReadFraming) → codings ≡ coding ∷ more → r ≡ capped (framing (coding ∷ more) lengths)
    → r ≡ capped (framing codings lengths)
once_coded codings more lengths coding r is e = e ∙ ap (λ (c : List (List ℕ)). capped (framing c lengths)) (sym is)

pub without_length : (lengths : List (List ℕ)) → lengths ≡ [] → Some ReadFraming.ToEnd ≡ capped (framing [] lengths)
without_length lengths none = ap (λ (l : List (List ℕ)). capped (framing [] l)) (sym none)

pub with_length : (lengths more : List (List ℕ)) (first : List ℕ) (r : Option ReadFraming) → lengths ≡ first ∷ more → r ≡ capped (framing [] (first ∷ more)) → r ≡ capped (framing [] lengths)
with_length lengths more first r is e = e ∙ ap (λ (l : List (List ℕ)). capped (framing [] l)) (sym is)

both_said : (coding length : List ℕ) (codings lengths : List (List ℕ)) → None ≡ capped (framing (coding ∷ codings) (length ∷ lengths))
both_said coding length [] lengths = refl
both_said coding length (c ∷ codings) lengths = refl

two_said : (coding other : List ℕ) (codings lengths : List (List ℕ)) → None ≡ capped (framing (coding ∷ other ∷ codings) lengths)
two_said coding other codings [] = refl
two_said coding other codings (l ∷ lengths) = refl

pub two_framings : (coding length : List ℕ) (codings lengths more : List (List ℕ)) → lengths ≡ length ∷ more → None ≡ capped (framing (coding ∷ codings) lengths)
two_framings coding length codings lengths more is =
    both_said coding length codings more ∙ ap (λ (l : List (List ℕ)). capped (framing (coding ∷ codings) l)) (sym is)

pub two_codings : (coding other : List ℕ) (codings lengths more : List (List ℕ)) → codings ≡ other ∷ more → None ≡ capped (framing (coding ∷ codings) lengths)
two_codings coding other codings lengths more is =
    two_said coding other more lengths ∙ ap (λ (c : List (List ℕ)). capped (framing (coding ∷ c) lengths)) (sym is)

alone : (coding : List ℕ) (codings lengths : List (List ℕ)) (v : Bool) → lengths ≡ [] → codings ≡ [] → str_eq_ignore_ascii_case coding (codes "chunked") ≡ v
    → capped (framing (coding ∷ codings) lengths) ≡ capped (if v then Some chunked else None)
alone coding codings lengths v none one e =
    ap (λ (l : List (List ℕ)). capped (framing (coding ∷ codings) l)) none ∙ ap (λ (c : List (List ℕ)). capped (framing (coding ∷ c) [])) one
    ∙ ap (λ (b : Bool). capped (if b then Some chunked else None)) e

pub other_coding : (coding : List ℕ) (codings lengths : List (List ℕ)) → lengths ≡ [] → codings ≡ [] → str_eq_ignore_ascii_case coding (codes "chunked") ≡ false
    → None ≡ capped (framing (coding ∷ codings) lengths)
other_coding coding codings lengths none one e = sym (alone coding codings lengths false none one e)

pub is_chunked : (coding : List ℕ) (codings lengths : List (List ℕ)) → lengths ≡ [] → codings ≡ [] → str_eq_ignore_ascii_case coding (codes "chunked") ≡ true
    → Some ReadFraming.Chunked ≡ capped (framing (coding ∷ codings) lengths)
is_chunked coding codings lengths none one e = sym (alone coding codings lengths true none one e)

abbrev pub is_as_long : List ℕ → List ℕ → Bool
is_as_long first value = is_length value && (digits_value 10 value == digits_value 10 first)

pub no_length : (first : List ℕ) (more : List (List ℕ)) → is_length first ≡ false → None ≡ capped (framing [] (first ∷ more))
no_length first more fails = ap capped (sym (sized_not first more fails))

pub two_lengths : (first : List ℕ) (more : List (List ℕ)) → is_length first ≡ true → list_all (λ value. is_length value && (digits_value 10 value == digits_value 10 first)) more ≡ false
    → None ≡ capped (framing [] (first ∷ more))
two_lengths first more one fails = ap capped (sym (sized_is first more false one (sym fails)))

pub one_length : (first : List ℕ) (more : List (List ℕ)) (n : ℕ) → is_length first ≡ true
    → list_all (λ value. is_length value && (digits_value 10 value == digits_value 10 first)) more ≡ true → n ≡ min (digits_value 10 first) 18446744073709551615
    → Some (ReadFraming.Sized n) ≡ capped (framing [] (first ∷ more))
one_length first more n one holds e = ap (λ (m : ℕ). Some (ReadFraming.Sized m)) e ∙ ap capped (sym (sized_is first more true one (sym holds)))

-- ---- tests of values, one by one

module _ (test : List ℕ → Bool) (every rest more : List (List ℕ)) (value : List ℕ) (cut : rest ≡ value ∷ more) where
  pub any_here : list_any test rest ≡ list_any test every → test value ≡ true → true ≡ list_any test every
  any_here same holds = ap (λ (v : Bool). v || list_any test more) (sym holds) ∙ ap (list_any test) (sym cut) ∙ same

  pub any_behind : list_any test rest ≡ list_any test every → test value ≡ false → list_any test more ≡ list_any test every
  any_behind same fails = ap (λ (v : Bool). v || list_any test more) (sym fails) ∙ ap (list_any test) (sym cut) ∙ same

  pub not_here : list_all test rest ≡ list_all test every → test value ≡ false → false ≡ list_all test every
  not_here same fails = ap (λ (v : Bool). v && list_all test more) (sym fails) ∙ ap (list_all test) (sym cut) ∙ same

  pub all_behind : list_all test rest ≡ list_all test every → test value ≡ true → list_all test more ≡ list_all test every
  all_behind same holds = ap (λ (v : Bool). v && list_all test more) (sym holds) ∙ ap (list_all test) (sym cut) ∙ same

pub any_none : (test : List ℕ → Bool) (every rest : List (List ℕ)) → rest ≡ [] → list_any test rest ≡ list_any test every → false ≡ list_any test every
any_none test every rest none same = ap (list_any test) (sym none) ∙ same

pub all_none : (test : List ℕ → Bool) (every rest : List (List ℕ)) → rest ≡ [] → list_all test rest ≡ list_all test every → true ≡ list_all test every
all_none test every rest none same = ap (list_all test) (sym none) ∙ same

-- ---- what is read is what the fields say

pub as_said : (limit : ℕ) (head : List ℕ) (headers : List HeaderSpan) (fields : List Field) (at : ℕ) (encoded : Bool) (r : Result ReadFraming WireEnd) → Cover head headers fields
    → FramingBy limit at (framing (values_at head headers (codes "transfer-encoding")) (values_at head headers (codes "content-length"))) encoded r
    → encoded ≡ list_any (λ value. not (str_eq_ignore_ascii_case value (codes "identity"))) (values_at head headers (codes "content-encoding"))
    → FramingBy limit at (framing_of fields) (is_encoded fields) r
as_said limit head headers fields at encoded r cover by coded =
    let codings = values_are head headers fields (codes "transfer-encoding") cover in
    let lengths = values_are head headers fields (codes "content-length") cover in
    let contents = values_are head headers fields (codes "content-encoding") cover in
    let same : framing (values_at head headers (codes "transfer-encoding")) (values_at head headers (codes "content-length")) ≡ framing_of fields =
    ap (λ (v : List (List ℕ)). framing v (values_at head headers (codes "content-length"))) codings
    ∙ ap (λ (v : List (List ℕ)). framing (values (codes "transfer-encoding") fields) v) lengths in
    let other : encoded ≡ is_encoded fields = coded ∙ ap (list_any (λ value. not (str_eq_ignore_ascii_case value (codes "identity")))) contents in
    subst (λ (e : Bool). FramingBy limit at (framing_of fields) e r) other (subst (λ (f : Option Framing). FramingBy limit at f encoded r) same by)
