-- Numbers, ranges and addresses of ports: which bytes they have, and that numbers read back.
use Rattle.std.proofs.Common.{◌≡◌, ◌∙◌, ℕ, ◌+◌, ◌-◌, ◌<◌, ◌≤◌, ◌^◌, Bool, true, not, ◌&&◌, ◌||◌, ◌==◌, cond, eqb, leb, ltb, List, [], ◌∷◌, ◌++◌, length, Option, Some, None, is_some, refl, ap, subst, arith, tests}
use Rattle.std.proofs.lemmas.Bool.{and_from, and_parts, cond-true, le-leb, leb-true, lt-ltb, ltb-true}
use Rattle.std.proofs.lemmas.Bool.Decides.{nat_tests}
use Rattle.std.proofs.lemmas.List.Folds.{list_all-append}
use Rattle.std.proofs.lemmas.Option.{cond_some, option_and_then_some}
use Rattle.std.specs.Char.{is_ascii_digit}
use Rattle.std.specs.Fmt.{decimal}
use Rattle.std.specs.List.{list_all}
use Rattle.std.specs.Option.{option_and_then, option_map}
use Rattle.std.specs.Str.Parse.{digits_value}
use Rattle.short_forms.specs.Cuts.{cut_once, parts_at}
use Rattle.short_forms.specs.Digits.{is_number, number_up_to}
use Rattle.short_forms.specs.Ports.{first_of, is_address, is_octet, range, span_in, span_of, target_of}
use Rattle.short_forms.specs.declared.ports.Span.{Span}
use Rattle.short_forms.specs.declared.ports.Span.TheVariants.{One, Range}
use Rattle.short_forms.proofs.PrintedLemmas.{all_weaker, decimal_digits, decimal_number, decimal_value}
use Rattle.short_forms.proofs.Lacking.{bytes_pass, cut_joins, cut_none, lacks}

-- a byte of an address or a range: a digit, a point or a minus
abbrev pub is_port_byte : ℕ → Bool
is_port_byte b = is_ascii_digit b || ((b == 46) || (b == 45))

digit_is : (b : ℕ) → is_ascii_digit b ≡ true → is_port_byte b ≡ true
digit_is b e = grind (arith, nat_tests, tests)

no_slash : (b : ℕ) → is_port_byte b ≡ true → not (eqb b 47) ≡ true
no_slash b e = grind (arith, nat_tests, tests)

no_colon : (b : ℕ) → is_port_byte b ≡ true → not (eqb b 58) ≡ true
no_colon b e = grind (arith, nat_tests, tests)

no_minus : (b : ℕ) → is_ascii_digit b ≡ true → not (eqb b 45) ≡ true
no_minus b e = grind (arith, nat_tests, tests)

pub lacks_slash : (text : List ℕ) → list_all is_port_byte text ≡ true → lacks 47 text ≡ true
lacks_slash text e = all_weaker is_port_byte (λ b. not (eqb b 47)) no_slash text e

pub lacks_colon : (text : List ℕ) → list_all is_port_byte text ≡ true → lacks 58 text ≡ true
lacks_colon text e = all_weaker is_port_byte (λ b. not (eqb b 58)) no_colon text e

digits_are : (text : List ℕ) → list_all is_ascii_digit text ≡ true → list_all is_port_byte text ≡ true
digits_are text e = all_weaker is_ascii_digit is_port_byte digit_is text e

-- what a number says
pub record IsNumber (most : ℕ) (text : List ℕ) (n : ℕ) : Type 0 where
  pub digits : list_all is_ascii_digit text ≡ true
  pub within : n ≤ most

pub number_is : (most : ℕ) (text : List ℕ) (n : ℕ) → number_up_to most text ≡ Some n → IsNumber most text n
number_is most text n e =
    let found = cond_some (is_number text && leb (digits_value 10 text) most) (digits_value 10 text) n e in
    let both = and_parts (is_number text) (leb (digits_value 10 text) most) found.0 in
    record {
      digits = (and_parts (ltb 0 (length text)) (list_all is_ascii_digit text) both.0).1;
      within = omega (arith, leb-true (digits_value 10 text) most both.1, found.1);
    }

-- the numbers of ports, as they are printed
module _ (n : ℕ) (small : n ≤ 65535) where
  fits : n < 2 ^ 64
  fits = omega arith

  pub decimal_bytes : list_all is_port_byte (decimal n) ≡ true
  decimal_bytes = digits_are (decimal n) (decimal_digits n fits)

  pub number_back : number_up_to 65535 (decimal n) ≡ Some n
  number_back =
      let value = decimal_value n fits in
      cond-true (is_number (decimal n) && leb (digits_value 10 (decimal n)) 65535) (Some (digits_value 10 (decimal n))) None
      (and_from (is_number (decimal n)) (leb (digits_value 10 (decimal n)) 65535) (decimal_number n fits) (le-leb (digits_value 10 (decimal n)) 65535 (omega arith)))
      ∙ ap Some value

  pub span_back : span_of (decimal n) ≡ Some (One n)
  span_back =
      ap (span_in (decimal n)) (cut_none 45 (decimal n) (all_weaker is_ascii_digit (λ b. not (eqb b 45)) no_minus (decimal n) (decimal_digits n fits)))
      ∙ ap (option_map One) number_back

  pub target_back : 1 ≤ n → target_of (decimal n) ≡ Some (One n)
  target_back some =
      ap (option_and_then (λ (span : Span). cond (ltb 0 (first_of span)) (Some span) None)) span_back
      ∙ cond-true (ltb 0 n) (Some (One n)) None (lt-ltb 0 n some)

-- the ports of a span
abbrev pub IsWithin : Span → Type 0
IsWithin (One port) = port ≤ 65535
IsWithin (Range first last) = (first ≤ last) × (last ≤ 65535)

-- what a span says of its text
pub record IsSpanOf (text : List ℕ) (span : Span) : Type 0 where
  pub bytes : list_all is_port_byte text ≡ true
  pub within : IsWithin span

pub option_map_some : {A B P : Type 0} (f : A → B) (o : Option A) (y : B) → option_map f o ≡ Some y → ((x : A) → o ≡ Some x → f x ≡ y → P) → P
option_map_some {A} {B} {P} f None y e go = absurd cc
option_map_some {A} {B} {P} f (Some x) y e go = go x refl (let same : f x ≡ y = cc in same)

range_is : (text front back : List ℕ) (span : Span) → text ≡ front ++ 45 ∷ back → (a b : ℕ) → IsNumber 65535 front a → IsNumber 65535 back b → range a b ≡ Some span → IsSpanOf text span
range_is text front back span whole a b first last e =
    let found = cond_some (leb a b && ltb (b - a) 1000) (Range a b) span e in
    let both = and_parts (leb a b) (ltb (b - a) 1000) found.0 in
    let bytes : list_all is_port_byte (front ++ 45 ∷ back) ≡ true =
    list_all-append is_port_byte front (45 ∷ back) ∙ and_from (list_all is_port_byte front) (list_all is_port_byte back) (digits_are front first.digits) (digits_are back last.digits) in
    let within : IsWithin (Range a b) = (leb-true a b both.0, last.within) in
    record {
      bytes = ap (list_all is_port_byte) whole ∙ bytes;
      within = subst IsWithin found.1 within;
    }

span_by : (text : List ℕ) (cut : Option (List ℕ × List ℕ)) → cut_once 45 text ≡ cut → (span : Span) → span_in text cut ≡ Some span → IsSpanOf text span
span_by text None c span e =
    option_map_some One (number_up_to 65535 text) span e
    (λ n found same. let is = number_is 65535 text n found in record { bytes = digits_are text is.digits; within = subst IsWithin same is.within })
span_by text (Some (front, back)) c span e =
    option_and_then_some (λ a. option_and_then (range a) (number_up_to 65535 back)) (number_up_to 65535 front) span e
    (λ a first more.
    option_and_then_some (range a) (number_up_to 65535 back) span more
    (λ b last found. range_is text front back span (cut_joins 45 text front back c) a b (number_is 65535 front a first) (number_is 65535 back b last) found))

pub span_is : (text : List ℕ) (span : Span) → span_of text ≡ Some span → IsSpanOf text span
span_is text span e = span_by text (cut_once 45 text) refl span e

-- a target's span begins at 1 or above
pub target_is : (text : List ℕ) (span : Span) → target_of text ≡ Some span → IsWithin span × (1 ≤ first_of span)
target_is text span e =
    option_and_then_some (λ (found : Span). cond (ltb 0 (first_of found)) (Some found) None) (span_of text) span e
    (λ found is more.
    let same = cond_some (ltb 0 (first_of found)) found span more in
    (subst IsWithin same.1 (span_is text found is).within, subst (λ (s : Span). 1 ≤ first_of s) same.1 (ltb-true 0 (first_of found) same.0)))

octet_digits : (text : List ℕ) → is_octet text ≡ true → list_all is_ascii_digit text ≡ true
octet_digits text e = by (number_up_to 255 text) refl (and_parts (is_some (number_up_to 255 text)) _ e).0
  where
    by : (o : Option ℕ) → number_up_to 255 text ≡ o → is_some o ≡ true → list_all is_ascii_digit text ≡ true
    by None found some = absurd cc
    by (Some n) found some = (number_is 255 text n found).digits

octets_digits : (parts : List (List ℕ)) → list_all is_octet parts ≡ true → list_all (list_all is_ascii_digit) parts ≡ true
octets_digits [] e = refl
octets_digits (part ∷ parts) e =
    let both = and_parts (is_octet part) (list_all is_octet parts) e in
    and_from (list_all is_ascii_digit part) (list_all (list_all is_ascii_digit) parts) (octet_digits part both.0) (octets_digits parts both.1)

-- an address has digits and points
pub address_bytes : (text : List ℕ) → is_address text ≡ true → list_all is_port_byte text ≡ true
address_bytes text e =
    bytes_pass 46 is_ascii_digit is_port_byte digit_is refl text
    (octets_digits (parts_at 46 text) (and_parts (eqb (length (parts_at 46 text)) 4) (list_all is_octet (parts_at 46 text)) e).1)
