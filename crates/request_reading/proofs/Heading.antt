-- What the parser answers to the bytes of a head is the head that the definitions ask for, or its fault.
use Rattle.std.proofs.Common.{◌≡◌, ◌≢◌, ℕ, ◌+◌, ◌-◌, ◌<◌, ◌≤◌, Bool, true, false, cond, List, [], ◌++◌, length, map, take, drop, min, Option, Some, None, refl, sym, ap, ◌∙◌, subst, arith, append_assoc}
use Rattle.std.proofs.lemmas.List.{append-nil, length-map, length-take-le, take-append-drop}
use Rattle.std.specs.Option.{option_map}
use Rattle.std.specs.Prelude.{All, Err, IsSomeAnd, Ok, Result, codes}
use Rattle.tree_base.specs.Limits.{most_body_bytes, most_head_bytes, most_header_lines}
use Rattle.engine_types.specs.declared.WireEnd.{WireEnd}
use Rattle.httparse.specs.Grammar.{HasNoRequest, NeverHasRequest, RequestHead, print_request}
use Rattle.httparse.specs.Spans.{IsHeaderWithin, IsRequestAt, IsRequestWithin, RequestExceeds, header_bytes, name_and_value}
use Rattle.httparse.specs.declared.Error.{Error}
use Rattle.httparse.specs.declared.spans.HeaderSpan.{HeaderSpan}
use Rattle.httparse.specs.declared.spans.RequestSpans.{RequestSpans}
use Rattle.response_rules.specs.Lines.{Part, blank_lines, ends, filled_lines, head_part, passed, whole_lines}
use Rattle.response_rules.specs.Heads.{values}
use Rattle.http_fields.specs.Fields.{Cover, values_at}
use Rattle.request_reading.specs.Requests.{BeginsWithHead, Breaks, bad_head, body_length, length_by, long_body, no_length}
use Rattle.request_reading.specs.Stocks.{IsHeadRead, ParsedBy, SaysBy, capped}
use Rattle.request_reading.specs.declared.heads.Head.{Head}
use Rattle.request_reading.specs.declared.received.RequestEnd.{RequestEnd}
use Rattle.request_reading.proofs.FieldValues.{values_are}
use Rattle.request_reading.proofs.Overflowing.{head_over}
use Rattle.request_reading.proofs.Searching.{ends_small}

as_many : (head : List ℕ) (headers : List HeaderSpan) (h : RequestHead) → Cover head headers h.fields → length h.fields ≡ length headers
as_many head headers h e = sym (length-map h.fields name_and_value) ∙ sym (ap length e) ∙ length-map headers (header_bytes head)

-- spans within fewer bytes are within more
pub are_within_more : (n m : ℕ) (headers : List HeaderSpan) → n ≤ m → All (IsHeaderWithin n) headers → All (IsHeaderWithin m) headers
are_within_more n m headers le all = λ (k : ℕ) (d : HeaderSpan) (l : k < length headers).
    let w = all k d l in
    ((w.0.0, omega (arith, w.0.1, le)), (w.1.0, omega (arith, w.1.1, le)))

module _ (read bytes : List ℕ) (n : ℕ) (part : head_part 0 read ≡ ends n) (is : bytes ≡ take n read) where
  module _ (headers front : List HeaderSpan) (spans : RequestSpans) (h : RequestHead) (found : IsRequestAt bytes headers spans h)
      (within : IsRequestWithin bytes headers spans) (room : length headers ≡ most_header_lines) (cut : front ≡ take spans.headers headers) where
    few : length h.fields ≤ most_header_lines
    few =
        let many = as_many bytes (take spans.headers headers) h found.fields in
        let fit = within.section.count_fits in
        let short : length (take spans.headers headers) ≡ spans.headers = length-take-le spans.headers headers fit in
        omega (arith, many, short, fit, room)

    limited : length (print_request h) ≤ most_head_bytes
    limited =
        let fit = within.section.len_fits in
        let len = found.len in
        let small = ends_small n read part in
        let short : length (take n read) ≡ n = length-take-le n read small.1 in
        let same = ap length is in
        omega (arith, fit, len, small, short, same)

    -- the bytes begin with the head
    pub begins_there : BeginsWithHead read h (drop spans.len bytes ++ drop n read)
    begins_there = record {
      is_head = found.reads.0;
      reads =
          sym (take-append-drop n read) ∙ ap (λ (b : List ℕ). b ++ drop n read) (sym is ∙ found.reads.1)
          ∙ append_assoc (print_request h) (drop spans.len bytes) (drop n read);
      few = few;
      within = limited;
    }

    -- the headers in front cover the fields
    pub covers : Cover bytes front h.fields
    covers = ap (λ (hs : List HeaderSpan). map (header_bytes bytes) hs) cut ∙ found.fields

    long_there : (o : Option ℕ) → body_length h ≡ o → IsSomeAnd o (λ m. most_body_bytes < m) → (ended : Bool) → Breaks read ended WireEnd.TooLarge
    long_there None e over = absurd over
    long_there (Some m) e over = λ (ended : Bool). long_body read (drop spans.len bytes ++ drop n read) ended h m begins_there e over

    pub head_there : (r : Result Head RequestEnd) → SaysBy spans.len h r → ParsedBy read r
    head_there (Ok f) says = (h, drop spans.len bytes ++ drop n read, begins_there, subst (λ (l : ℕ). IsHeadRead l h f) found.len says)
    head_there (Err (RequestEnd.Wire (WireEnd.Malformed at))) says = λ (ended : Bool).
        subst (λ (p : ℕ). Breaks read ended (WireEnd.Malformed p)) (sym says.0) (no_length read (drop spans.len bytes ++ drop n read) ended h begins_there says.1)
    head_there (Err (RequestEnd.Wire WireEnd.TooLarge)) says = long_there (body_length h) refl says
    head_there (Err (RequestEnd.Wire WireEnd.Fault)) says = says
    head_there (Err (RequestEnd.Wire WireEnd.BadBody)) says = says
    head_there (Err (RequestEnd.Wire WireEnd.Encoded)) says = says
    head_there (Err (RequestEnd.Wire WireEnd.Ended)) says = absurd says
    head_there (Err RequestEnd.Memory) says = says

  -- what the parser refuses is no head
  pub no_head_there : HasNoRequest bytes → ParsedBy read (Err (RequestEnd.Wire (WireEnd.Malformed 0)))
  no_head_there none = λ (ended : Bool). bad_head read ended n part (subst HasNoRequest is none)

  never_there : NeverHasRequest bytes → HasNoRequest bytes
  never_there never = subst HasNoRequest (append-nil bytes) (never [])

  ends_passed : (p : Part) → p ≡ ends n → p ≡ passed → ⊥
  ends_passed p e f = let other : ends n ≡ passed = sym e ∙ f in cc other

  -- more header lines than there is room for never come
  not_too_many : RequestExceeds most_header_lines bytes → ⊥
  not_too_many (front, rest, cut, h, reads, many) =
      let whole : read ≡ (front ++ rest) ++ drop n read = sym (take-append-drop n read) ∙ ap (λ (b : List ℕ). b ++ drop n read) (sym is ∙ cut) in
      ends_passed (head_part 0 read) part (ap (head_part 0) whole ∙ head_over h front rest (drop n read) 0 reads.0 many reads.1)

  other : (e : Error) → (e ≢ Error.TooManyHeaders) → (e ≢ Error.TooManyHeaders → NeverHasRequest bytes) → ParsedBy read (Err (RequestEnd.Wire (WireEnd.Malformed 0)))
  other e fails never = no_head_there (never_there (never fails))

  pub refused_there : (e : Error) → (e ≢ Error.TooManyHeaders → NeverHasRequest bytes)
      → (e ≡ Error.TooManyHeaders → RequestExceeds most_header_lines bytes) → ParsedBy read (Err (RequestEnd.Wire (WireEnd.Malformed 0)))
  refused_there Error.TooManyHeaders never many = absurd (not_too_many (many refl))
  refused_there Error.HeaderName never many = other Error.HeaderName (λ (e : Error.HeaderName ≡ Error.TooManyHeaders). cc e) never
  refused_there Error.HeaderValue never many = other Error.HeaderValue (λ (e : Error.HeaderValue ≡ Error.TooManyHeaders). cc e) never
  refused_there Error.NewLine never many = other Error.NewLine (λ (e : Error.NewLine ≡ Error.TooManyHeaders). cc e) never
  refused_there Error.Status never many = other Error.Status (λ (e : Error.Status ≡ Error.TooManyHeaders). cc e) never
  refused_there Error.Token never many = other Error.Token (λ (e : Error.Token ≡ Error.TooManyHeaders). cc e) never
  refused_there Error.Version never many = other Error.Version (λ (e : Error.Version ≡ Error.TooManyHeaders). cc e) never

-- ---- the length that is read is the head's, where it isn't past 64 bits

pub no_size : (o : Option ℕ) → None ≡ option_map capped o → o ≡ None
no_size None e = refl
no_size (Some n) e = absurd (cc e)

pub long_size : (o : Option ℕ) (m : ℕ) → Some m ≡ option_map capped o → most_body_bytes < m → IsSomeAnd o (λ n. most_body_bytes < n)
long_size None m e over = absurd (cc e)
long_size (Some n) m e over = let same : m ≡ min n 18446744073709551615 = cc e in omega (arith, same, over)

pub sound_size : (o : Option ℕ) (m : ℕ) → Some m ≡ option_map capped o → m ≤ most_body_bytes → o ≡ Some m
sound_size None m e under = absurd (cc e)
sound_size (Some n) m e under = let same : m ≡ min n 18446744073709551615 = cc e in ap Some (omega (arith, same, under))

pub read_size : (bytes : List ℕ) (headers : List HeaderSpan) (h : RequestHead) (method : List ℕ) (r : Option ℕ) → Cover bytes headers h.fields → method ≡ h.method
    → r ≡ option_map capped (length_by method (values_at bytes headers (codes "content-length"))) → r ≡ option_map capped (body_length h)
read_size bytes headers h method r cover same e =
    e ∙ ap (λ (v : List (List ℕ)). option_map capped (length_by method v)) (values_are bytes headers h.fields (codes "content-length") cover)
    ∙ ap (λ (m : List ℕ). option_map capped (length_by m (values (codes "content-length") h.fields))) same
