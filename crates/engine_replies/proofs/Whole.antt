-- What is written of a response is a whole one (RFC 9112, section 2.1).
use Rattle.std.proofs.Common.{◌≡◌, ◌+◌, ◌-◌, ◌<◌, ◌≤◌, ◌^◌, ◌⊎◌, inl, inr, ◌∙◌, ℕ, Bool, true, false, not, ◌&&◌, List, [], ◌∷◌, ◌++◌, if◌then◌else◌, nat_lt, length, get_or, take, refl, sym, ap, subst, arith, decimal, append_assoc, Option, Some, None, codes, reverse, true≢false}
use Rattle.std.proofs.lemmas.Bool.{agree_below_at, and_from, le-ltb, lt-ltb}
use Rattle.std.proofs.lemmas.Fmt.{decimal_is_IsNumeral, decimal_nonempty, length-decimal-le}
use Rattle.std.proofs.lemmas.List.{append-nil, length-append, take_all}
use Rattle.std.proofs.lemmas.List.Elements.{All-cons, All-from_get_or, All-head, All-nil, All-tail}
use Rattle.std.proofs.lemmas.List.Sums.{AllPass-from_list_all}
use Rattle.std.proofs.lemmas.Str.Parse.{digit_at}
use Rattle.std.specs.Char.{is_ascii_digit}
use Rattle.std.specs.List.{flat_map, list_all}
use Rattle.std.specs.Prelude.{All, IsTrue}
use Rattle.std.specs.Str.Parse.{digits_value}
use Rattle.httparse.proofs.TrimLemmas.{AllPass-reverse, trim_ows_space}
use Rattle.httparse.specs.Grammar.{AllPass, Field, IsField, IsResponseHead, IsToken, ResponseHead, crlf, is_ows, is_token_byte, is_value_byte, print_field, print_response, print_section, skip_ows, status_code, trim_ows}
use Rattle.tree_base.specs.Limits.{most_body_bytes, most_head_bytes, most_header_lines}
use Rattle.engine_types.specs.declared.WireEnd.{WireEnd}
use Rattle.http_request.specs.Heads.{field}
use Rattle.http_request.specs.Requests.{body_bytes}
use Rattle.response_rules.specs.Heads.{Framing, fault_within, framing, framing_of, has_no_body, head_fault_within, is_interim, is_length, sized, to_end}
use Rattle.response_rules.specs.Responses.{BeginsWithHeadWithin, HasBodyOfWithin, IsResponse, IsSkippedWithin}
use Rattle.engine_replies.specs.Replies.{body_lines, reason_of, response_with}
use Rattle.engine_replies.proofs.Statuses.{IsStatus}

-- ---- the head

-- the fields of a body: its type and its length
abbrev body_fields : Option (List ℕ) → List Field
body_fields None = []
body_fields (Some body) = field (codes "Content-Type") (codes "application/json") ∷ field (codes "Content-Length") (decimal (length body)) ∷ []

abbrev fields_of : Option (List ℕ) → List Field
fields_of body = field (codes "Connection") (codes "close") ∷ body_fields body

abbrev head_of : ℕ → Option (List ℕ) → ResponseHead
head_of status body = record {
  blank = [];
  minor = 1;
  digits = decimal status;
  reason = Some (reason_of status);
  line_end = crlf;
  fields = fields_of body;
  last = crlf;
}

fields_printed : (body : Option (List ℕ)) → flat_map print_field (body_fields body) ≡ body_lines body
fields_printed None = refl
fields_printed (Some body) =
    ap (λ (t : List ℕ). codes "Content-Type: application/json\r\n" ++ t) (append-nil (codes "Content-Length: " ++ decimal (length body) ++ codes "\r\n"))

flat_written : (a d s r c f e b : List ℕ) → a ++ d ++ s ++ r ++ c ++ f ++ e ++ b ≡ a ++ (d ++ (s ++ (r ++ (c ++ (f ++ (e ++ b))))))
flat_written a d s r c f e b = simp append_assoc

flat_head : (v d r e x b : List ℕ) → ((((v ++ d) ++ r) ++ e) ++ x) ++ b ≡ v ++ (d ++ (r ++ (e ++ (x ++ b))))
flat_head v d r e x b = simp append_assoc

printed : (status : ℕ) (body : Option (List ℕ)) → response_with status body ≡ print_response (head_of status body) ++ body_bytes body
unfolding print_response
printed status body =
    let d : List ℕ = decimal status in
    let r : List ℕ = reason_of status in
    let b : List ℕ = body_bytes body in
    let f : List ℕ = flat_map print_field (body_fields body) in
    flat_written (codes "HTTP/1.1 ") d (codes " ") r (codes "\r\nConnection: close\r\n") (body_lines body) (codes "\r\n") b
    ∙ ap (λ (t : List ℕ). codes "HTTP/1.1 " ++ (d ++ (codes " " ++ (r ++ (codes "\r\nConnection: close\r\n" ++ t)))))
    (ap (λ (t : List ℕ). t ++ (codes "\r\n" ++ b)) (sym (fields_printed body)) ∙ sym (append_assoc f (codes "\r\n") b))
    ∙ sym (flat_head (codes "HTTP/1.1") (32 ∷ d) (32 ∷ r) (codes "\r\n") (print_section (fields_of body) crlf) b)

-- ---- its parts are those of the grammar

small_fits : (n : ℕ) → n ≤ most_body_bytes → n < 2 ^ 64
small_fits n h = omega (arith, h)

-- what holds of each digit holds of the bytes of a number
digits_pass : (test : ℕ → Bool) → ((b : ℕ) → 48 ≤ b → b ≤ 57 → test b ≡ true) → (n : ℕ) → n < 2 ^ 64 → AllPass test (decimal n)
digits_pass test each n fits =
    All-from_get_or (λ b. IsTrue (test b)) (decimal n) 0
    (λ i within. let d = digit_at (decimal n) i (decimal_is_IsNumeral n fits).0.1 within in each (get_or (decimal n) i 0) d.0 d.1)

-- a test that is true of each digit, by a look at each byte
digit_true : (test : ℕ → Bool) → ((x : ℕ) → x < 10 → test (48 + x) ≡ true) → (b : ℕ) → 48 ≤ b → b ≤ 57 → test b ≡ true
digit_true test each b low high =
    let e : 48 + (b - 48) ≡ b = omega (arith, low) in
    ap test (sym e) ∙ each (b - 48) (omega (arith, low, high))

value_digit : (b : ℕ) → 48 ≤ b → b ≤ 57 → is_value_byte b ≡ true
value_digit = digit_true is_value_byte (λ x h. agree_below_at (λ y. is_value_byte (48 + y)) (λ y. true) 10 x refl h)

plain_digit : (b : ℕ) → 48 ≤ b → b ≤ 57 → not (is_ows b) ≡ true
plain_digit = digit_true (λ b. not (is_ows b)) (λ x h. agree_below_at (λ y. not (is_ows (48 + y))) (λ y. true) 10 x refl h)

ascii_digit : (b : ℕ) → 48 ≤ b → b ≤ 57 → is_ascii_digit b ≡ true
ascii_digit = digit_true is_ascii_digit (λ x h. agree_below_at (λ y. is_ascii_digit (48 + y)) (λ y. true) 10 x refl h)

fixed_field : (name value : List ℕ) → IsToken name → AllPass is_value_byte (32 ∷ value) → IsField (field name value)
fixed_field name value n v = record { name = n; raw = v }

connection_field : IsField (field (codes "Connection") (codes "close"))
unfolding is_token_byte
connection_field =
    fixed_field (codes "Connection") (codes "close") (omega arith, AllPass-from_list_all is_token_byte (codes "Connection") refl)
    (AllPass-from_list_all is_value_byte (codes " close") refl)

type_field : IsField (field (codes "Content-Type") (codes "application/json"))
unfolding is_token_byte
type_field =
    fixed_field (codes "Content-Type") (codes "application/json") (omega arith, AllPass-from_list_all is_token_byte (codes "Content-Type") refl)
    (AllPass-from_list_all is_value_byte (codes " application/json") refl)

length_field : (n : ℕ) → n < 2 ^ 64 → IsField (field (codes "Content-Length") (decimal n))
unfolding is_token_byte
length_field n fits =
    fixed_field (codes "Content-Length") (decimal n) (omega arith, AllPass-from_list_all is_token_byte (codes "Content-Length") refl)
    (All-cons (λ b. IsTrue (is_value_byte b)) 32 (decimal n) refl (digits_pass is_value_byte value_digit n fits))

body_fields_are : (body : Option (List ℕ)) → length (body_bytes body) ≤ most_body_bytes → All IsField (body_fields body)
body_fields_are None small = All-nil IsField
body_fields_are (Some body) small =
    All-cons IsField (field (codes "Content-Type") (codes "application/json")) (field (codes "Content-Length") (decimal (length body)) ∷ []) type_field
    (All-cons IsField (field (codes "Content-Length") (decimal (length body))) [] (length_field (length body) (small_fits (length body) small)) (All-nil IsField))

head_is : (status : ℕ) (body : Option (List ℕ)) → IsStatus status body → length (body_bytes body) ≤ most_body_bytes → IsResponseHead (head_of status body)
head_is status body s small = record {
  minor = omega arith;
  digits = (s.three, s.digits_are);
  reason = s.reason;
  fields = All-cons IsField (field (codes "Connection") (codes "close")) (body_fields body) connection_field (body_fields_are body small);
}

-- ---- and short

five_long : (v d r e x : List ℕ) → length ((((v ++ d) ++ r) ++ e) ++ x) ≡ length v + length d + length r + length e + length x
five_long v d r e x =
    omega (arith, length-append (((v ++ d) ++ r) ++ e) x, length-append ((v ++ d) ++ r) e, length-append (v ++ d) r, length-append v d)

lines_short : (body : Option (List ℕ)) → length (body_bytes body) ≤ most_body_bytes → length (body_lines body) ≤ 80
lines_short None small = omega arith
lines_short (Some body) small =
    let n : length (decimal (length body)) ≤ 8 = length-decimal-le 8 (length body) (omega arith) (omega (arith, small)) (small_fits (length body) small) in
    let l : length (decimal (length body) ++ codes "\r\n") ≡ length (decimal (length body)) + 2 = length-append (decimal (length body)) (codes "\r\n") in
    omega (arith, n, l)

section_short : (body : Option (List ℕ)) → length (body_bytes body) ≤ most_body_bytes → length (print_section (fields_of body) crlf) ≤ 110
section_short body small =
    let f : List ℕ = flat_map print_field (body_fields body) in
    let e : length f ≡ length (body_lines body) = ap length (fields_printed body) in
    let l : length (body_lines body) ≤ 80 = lines_short body small in
    let s : length (f ++ codes "\r\n") ≡ length f + 2 = length-append f (codes "\r\n") in
    omega (arith, e, l, s)

head_short : (status : ℕ) (body : Option (List ℕ)) → IsStatus status body → length (body_bytes body) ≤ most_body_bytes → length (print_response (head_of status body)) ≤ most_head_bytes
unfolding print_response
head_short status body s small =
    let x : length (print_section (fields_of body) crlf) ≤ 110 = section_short body small in
    let l = five_long (codes "HTTP/1.1") (32 ∷ decimal status) (32 ∷ reason_of status) (codes "\r\n") (print_section (fields_of body) crlf) in
    let three = s.three in
    let short = s.short in
    omega (arith, x, l, three, short)

few_fields : (body : Option (List ℕ)) → length (fields_of body) ≤ most_header_lines
few_fields None = omega arith
few_fields (Some body) = omega arith

-- ---- what its fields say

skipped : (text : List ℕ) → AllPass (λ b. not (is_ows b)) text → skip_ows text ≡ text
skipped [] all = refl
skipped (b ∷ text) all =
    ap (λ (v : Bool). if v then skip_ows text else b ∷ text) (negated (is_ows b) (All-head (λ c. IsTrue (not (is_ows c))) b text all))
  where
    negated : (x : Bool) → not x ≡ true → x ≡ false
    negated true e = absurd (true≢false (sym e))
    negated false e = refl

value_is : (n : ℕ) → n < 2 ^ 64 → trim_ows (32 ∷ decimal n) ≡ decimal n
value_is n fits =
    let all = digits_pass (λ b. not (is_ows b)) plain_digit n fits in
    trim_ows_space (decimal n) (skipped (decimal n) all) (skipped (reverse (decimal n)) (AllPass-reverse (λ b. not (is_ows b)) (decimal n) all))

all_by_test : (test : ℕ → Bool) (text : List ℕ) → AllPass test text → list_all test text ≡ true
all_by_test test [] all = refl
all_by_test test (b ∷ text) all =
    and_from (test b) (list_all test text) (All-head (λ c. IsTrue (test c)) b text all) (all_by_test test text (All-tail (λ c. IsTrue (test c)) b text all))

length_is : (n : ℕ) → n < 2 ^ 64 → is_length (decimal n) ≡ true
length_is n fits =
    and_from (nat_lt 0 (length (decimal n))) (list_all is_ascii_digit (decimal n)) (lt-ltb 0 (length (decimal n)) (decimal_nonempty n fits))
    (all_by_test is_ascii_digit (decimal n) (digits_pass is_ascii_digit ascii_digit n fits))

-- where a body ends
abbrev framed : Option (List ℕ) → Framing
framed None = to_end
framed (Some body) = sized (length body)

framing_is : (body : Option (List ℕ)) → length (body_bytes body) ≤ most_body_bytes → framing_of (fields_of body) ≡ Some (framed body)
framing_is None small = refl
framing_is (Some body) small =
    let fits : length body < 2 ^ 64 = small_fits (length body) small in
    ap (λ (v : List ℕ). framing [] (v ∷ [])) (value_is (length body) fits)
    ∙ ap (λ (v : Bool). if (v && true) && true then Some (sized (digits_value 10 (decimal (length body)))) else None) (length_is (length body) fits)
    ∙ ap (λ (n : ℕ). Some (sized n)) (decimal_is_IsNumeral (length body) fits).1

sound : (body : Option (List ℕ)) → length (body_bytes body) ≤ most_body_bytes → head_fault_within most_body_bytes 0 (fields_of body) ≡ None
sound None small = refl
sound (Some body) small =
    ap (λ (f : Option Framing). fault_within most_body_bytes 0 f false) (framing_is (Some body) small)
    ∙ ap (λ (v : Bool). if v then Some WireEnd.TooLarge else None) (le-ltb most_body_bytes (length body) small)

-- ---- the body

has_body : (status : ℕ) (body : Option (List ℕ)) → length (body_bytes body) ≤ most_body_bytes
    → (has_no_body status ≡ false) ⊎ ((has_no_body status ≡ true) × (body ≡ None))
    → HasBodyOfWithin most_body_bytes status (Some (framed body)) (body_bytes body) true (body_bytes body)
has_body status body small (inr none) = inl (none.0, ap body_bytes none.1)
has_body status None small (inl some) = inr (some, (refl, small, refl))
has_body status (Some body) small (inl some) = inr (some, (omega arith, sym (take_all (length body) body (omega arith))))

pub whole : (status : ℕ) (body : Option (List ℕ)) → IsStatus status body → length (body_bytes body) ≤ most_body_bytes
    → IsResponse (response_with status body) true status (body_bytes body)
whole status body s small = record {
  skipped = [];
  head = head_of status body;
  rest = body_bytes body;
  begins = record {
    skips = record { each = All-nil (IsSkippedWithin most_body_bytes); within = omega arith; reads = printed status body };
    is_head = head_is status body s small;
    few = few_fields body;
    within = let w : length (print_response (head_of status body)) ≤ most_head_bytes = head_short status body s small in omega (arith, w);
  };
  final = ap is_interim s.value ∙ s.final;
  sound = sound body small;
  has_status = sym s.value;
  has_body =
      subst (λ (f : Option Framing). HasBodyOfWithin most_body_bytes status f (body_bytes body) true (body_bytes body)) (sym (framing_is body small))
      (has_body status body small s.bodied);
}
