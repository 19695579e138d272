-- What the parser answers to the bytes of a head is the head that the definitions ask for, or its fault.
use Rattle.std.proofs.Common.{◌≡◌, ◌≢◌, ℕ, ◌+◌, ◌-◌, ◌<◌, ◌≤◌, List, ◌++◌, length, map, take, drop, refl, sym, ap, ◌∙◌, arith, append_assoc}
use Rattle.std.proofs.lemmas.List.{length-map, length-take-le, take-append-drop}
use Rattle.std.specs.Prelude.{All, Err, Ok}
use Rattle.tree_base.specs.Limits.{most_head_bytes, most_header_lines}
use Rattle.engine_types.specs.declared.WireEnd.{WireEnd}
use Rattle.httparse.specs.Grammar.{Field, HasNoResponse, NeverHasResponse, ResponseHead, print_response}
use Rattle.httparse.specs.Spans.{IsHeaderWithin, IsResponseAt, IsResponseWithin, ResponseExceeds, header_bytes, name_and_value}
use Rattle.httparse.specs.declared.Error.{Error}
use Rattle.httparse.specs.declared.spans.HeaderSpan.{HeaderSpan}
use Rattle.httparse.specs.declared.spans.ResponseSpans.{ResponseSpans}
use Rattle.response_rules.specs.Heads.{framing_of, is_encoded}
use Rattle.response_rules.specs.Lines.{blank_lines, ends, filled_lines, head_part, whole_lines}
use Rattle.http_fields.specs.Fields.{Cover, FramingBy}
use Rattle.http_response.specs.Found.{ParsedBy}
use Rattle.http_fields.specs.declared.fields.Framing.{Framing as ReadFraming}
use Rattle.http_response.proofs.Heading.{bad_fields_there, head_some, never_there, no_head_there, not_too_many, sound_anywhere}
use Rattle.http_response.proofs.Limits.{EndsWithin, ends_within}

as_many : (head : List ℕ) (headers : List HeaderSpan) (fields : List Field) → Cover head headers fields → length fields ≡ length headers
as_many head headers fields e = sym (length-map fields name_and_value) ∙ sym (ap length e) ∙ length-map headers (header_bytes head)

-- spans within fewer bytes are within more
pub are_within_more : (n m : ℕ) (headers : List HeaderSpan) → n ≤ m → All (IsHeaderWithin n) headers → All (IsHeaderWithin m) headers
are_within_more n m headers le all = λ (k : ℕ) (d : HeaderSpan) (l : k < length headers).
    let w = all k d l in
    ((w.0.0, omega (arith, w.0.1, le)), (w.1.0, omega (arith, w.1.1, le)))

module _ (limit : ℕ) (tail bytes : List ℕ) (before n : ℕ) (headers front : List HeaderSpan) (spans : ResponseSpans) (h : ResponseHead)
    (part : head_part before tail ≡ ends n) (is : bytes ≡ take n tail) (found : IsResponseAt bytes headers spans h) (within : IsResponseWithin bytes headers spans)
    (room : length headers ≡ most_header_lines) (cut : front ≡ take spans.headers headers) where
  reads : tail ≡ print_response h ++ (drop spans.len bytes ++ drop n tail)
  reads =
      sym (take-append-drop n tail) ∙ ap (λ (b : List ℕ). b ++ drop n tail) (sym is ∙ found.reads.1)
      ∙ append_assoc (print_response h) (drop spans.len bytes) (drop n tail)

  few : length h.fields ≤ most_header_lines
  few =
      let many = as_many bytes (take spans.headers headers) h.fields found.fields in
      let fit = within.section.count_fits in
      let short : length (take spans.headers headers) ≡ spans.headers = length-take-le spans.headers headers fit in
      omega (arith, many, short, fit, room)

  ending : EndsWithin (most_head_bytes - before) (most_header_lines + 1) (filled_lines (drop (blank_lines (whole_lines tail)) (whole_lines tail))) n tail
  ending = ends_within (most_head_bytes - before) (most_header_lines + 1) (blank_lines (whole_lines tail)) (filled_lines (drop (blank_lines (whole_lines tail)) (whole_lines tail))) tail n part

  limited : before + length (print_response h) ≤ most_head_bytes
  limited =
      let fit = within.section.len_fits in
      let len = found.len in
      let small = ending.small in
      let inside = ending.within in
      let short : length (take n tail) ≡ n = length-take-le n tail inside in
      let same = ap length is in
      omega (arith, fit, len, small, inside, short, same, head_some h)

  -- the headers in front cover the fields
  pub covers : Cover bytes front h.fields
  covers = ap (λ (hs : List HeaderSpan). map (header_bytes bytes) hs) cut ∙ found.fields

  pub head_there : (f : ReadFraming) → FramingBy limit before (framing_of h.fields) (is_encoded h.fields) (Ok f)
      → ParsedBy limit tail before (Ok (record { status = spans.code; framing = f; length = spans.len }))
  head_there f by = record {
    head = h;
    rest = drop spans.len bytes ++ drop n tail;
    is_head = found.reads.0;
    reads = reads;
    few = few;
    within = limited;
    sound = sound_anywhere limit before (framing_of h.fields) (is_encoded h.fields) by.1;
    status_is = found.code;
    framing_is = by.0;
    length_is = found.len;
  }

  pub fault_there : (cause : WireEnd) → FramingBy limit before (framing_of h.fields) (is_encoded h.fields) (Err cause) → ParsedBy limit tail before (Err cause)
  fault_there cause by = bad_fields_there limit tail (drop spans.len bytes ++ drop n tail) before h found.reads.0 reads few limited cause by

-- what the parser refuses is no head
module _ (limit : ℕ) (tail bytes : List ℕ) (before n : ℕ) (part : head_part before tail ≡ ends n) (is : bytes ≡ take n tail) where
  pub partial_there : HasNoResponse bytes → ParsedBy limit tail before (Err (WireEnd.Malformed before))
  partial_there none = no_head_there limit tail bytes before n part is none

  other : (e : Error) → (e ≢ Error.TooManyHeaders) → (e ≢ Error.TooManyHeaders → NeverHasResponse bytes) → ParsedBy limit tail before (Err (WireEnd.Malformed before))
  other e fails never = no_head_there limit tail bytes before n part is (never_there bytes (never fails))

  pub refused_there : (e : Error) → (e ≢ Error.TooManyHeaders → NeverHasResponse bytes)
      → (e ≡ Error.TooManyHeaders → ResponseExceeds most_header_lines bytes) → ParsedBy limit tail before (Err (WireEnd.Malformed before))
  refused_there Error.TooManyHeaders never many = absurd (not_too_many tail bytes before n part is (many refl))
  refused_there Error.HeaderName never many = other Error.HeaderName (λ (e : Error.HeaderName ≡ Error.TooManyHeaders). cc e) never
  refused_there Error.HeaderValue never many = other Error.HeaderValue (λ (e : Error.HeaderValue ≡ Error.TooManyHeaders). cc e) never
  refused_there Error.NewLine never many = other Error.NewLine (λ (e : Error.NewLine ≡ Error.TooManyHeaders). cc e) never
  refused_there Error.Status never many = other Error.Status (λ (e : Error.Status ≡ Error.TooManyHeaders). cc e) never
  refused_there Error.Token never many = other Error.Token (λ (e : Error.Token ≡ Error.TooManyHeaders). cc e) never
  refused_there Error.Version never many = other Error.Version (λ (e : Error.Version ≡ Error.TooManyHeaders). cc e) never
