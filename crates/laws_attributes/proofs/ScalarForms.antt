-- What a scalar writes is written again by what is printed of it.
use Rattle.std.proofs.Common.{◌≡◌, ◌∙◌, ℕ, ℤ, pos, negsuc, ◌-◌, ◌*◌, ◌/◌, ◌%◌, ◌^◌, ◌<◌, ◌≤◌, Bool, true, false, cond, ◌&&◌, eqb, leb, ltb, List, [], ◌∷◌, length, codes, drop, take_while, Option, Some, None, refl, ap, subst, arith}
use Rattle.std.proofs.lemmas.Bool.{and_parts, cond-true, le-leb, leb-true, lt-ltb, ltb-true}
use Rattle.std.proofs.lemmas.Fmt.{decimal_digit}
use Rattle.std.proofs.lemmas.Option.{cond_some, option_and_then_some}
use Rattle.std.specs.Char.{is_ascii_digit}
use Rattle.std.specs.Fmt.{decimal, signed_decimal}
use Rattle.std.specs.List.{list_all}
use Rattle.std.specs.Option.{option_and_then, option_map}
use Rattle.std.specs.Str.{bytes_eq}
use Rattle.std.specs.Str.Parse.{digits_value}
use Rattle.short_forms.specs.Decimals.{billionths_in, decimal_of}
use Rattle.short_forms.specs.Digits.{digit_runs, is_number, number_up_to, scaled}
use Rattle.short_forms.specs.Durations.{amounts, duration_of, sum_of, whole_micros}
use Rattle.short_forms.specs.MountLaws.{flag_word}
use Rattle.short_forms.specs.PortLaws.{as_published, published_in, target_in}
use Rattle.short_forms.specs.Cuts.{cut_once}
use Rattle.short_forms.specs.Ports.{range, span_in}
use Rattle.short_forms.specs.Printed.{decimal_text, duration_text}
use Rattle.short_forms.specs.Sizes.{size_in, size_of, unit_bytes}
use Rattle.short_forms.proofs.DurationLemmas.{durations}
use Rattle.short_forms.proofs.PortNumbers.{number_back, number_is, option_map_some, span_back}
use Rattle.short_forms.proofs.PrintedLemmas.{decimal_digits, decimal_number, decimal_value, decimals, sizes}
use Rattle.attribute_scalars.specs.Scalars.{bool_of, int_of, num_of}

pub bool_back : (given : Bool) → bool_of (flag_word given) ≡ Some given
bool_back true = refl
bool_back false = refl

num_printed : (n : ℕ) → n ≤ 2 ^ 63 - 1 → num_of (decimal n) ≡ Some n
num_printed n h =
    let small : n < 2 ^ 64 = omega arith in
    rw (decimal_number n small, decimal_value n small, le-leb n (2 ^ 63 - 1) h) refl

pub num_back : (text : List ℕ) (n : ℕ) → num_of text ≡ Some n → num_of (decimal n) ≡ Some n
num_back text n e = num_printed n (number_is (2 ^ 63 - 1) text n e).within

digits_differ : (ds : List ℕ) → list_all is_ascii_digit ds ≡ true → bytes_eq ds (codes "-1") ≡ false
digits_differ [] h = refl
digits_differ (d ∷ ds) h = grind (arith)

pos_printed : (n : ℕ) → n ≤ 2 ^ 63 - 1 → int_of (signed_decimal (pos n)) ≡ Some (pos n)
pos_printed n h = rw (digits_differ (decimal n) (decimal_digits n (omega arith)), num_printed n h) refl

minus_one : int_of (signed_decimal (negsuc 0)) ≡ Some (negsuc 0)
minus_one = ap (λ (ds : List ℕ). int_of (45 ∷ ds)) (decimal_digit 1 (omega arith))

pub int_back : (text : List ℕ) (z : ℤ) → int_of text ≡ Some z → int_of (signed_decimal z) ≡ Some z
int_back text z e = at (bytes_eq text (codes "-1")) e
  where
    found : (o : Option ℕ) → num_of text ≡ o → option_map pos o ≡ Some z → int_of (signed_decimal z) ≡ Some z
    found None is e = absurd (cc e)
    found (Some n) is e =
        let same : pos n ≡ z = cc e in
        subst (λ (k : ℤ). int_of (signed_decimal k) ≡ Some k) same (pos_printed n (number_is (2 ^ 63 - 1) text n is).within)

    at : (b : Bool) → cond b (Some (negsuc 0)) (option_map pos (num_of text)) ≡ Some z → int_of (signed_decimal z) ≡ Some z
    at true e = let same : negsuc 0 ≡ z = cc e in subst (λ (k : ℤ). int_of (signed_decimal k) ≡ Some k) same minus_one
    at false e = found (num_of text) refl e

micros_few : (parts n : ℕ) → whole_micros parts ≡ Some n → n ≤ 9 * 10 ^ 15
micros_few parts n e =
    let found = cond_some (eqb (parts % 10 ^ 39) 0 && leb (parts / 10 ^ 39) (9 * 10 ^ 15)) (parts / 10 ^ 39) n e in
    let both = and_parts (eqb (parts % 10 ^ 39) 0) (leb (parts / 10 ^ 39) (9 * 10 ^ 15)) found.0 in
    subst (λ (k : ℕ). k ≤ 9 * 10 ^ 15) found.1 (leb-true (parts / 10 ^ 39) (9 * 10 ^ 15) both.1)

micros_within : (text : List ℕ) (n : ℕ) → duration_of text ≡ Some n → n ≤ 9 * 10 ^ 15
micros_within text n e = at (bytes_eq text (codes "0")) (eqb (length text) 0) e
  where
    at : (b c : Bool) → cond b (Some 0) (cond c None (option_and_then whole_micros (sum_of (amounts text)))) ≡ Some n → n ≤ 9 * 10 ^ 15
    at true c e = let same : 0 ≡ n = cc e in omega arith
    at false true e = absurd (cc e)
    at false false e = option_and_then_some whole_micros (sum_of (amounts text)) n e (λ parts is found. micros_few parts n found)

pub duration_back : (text : List ℕ) (n : ℕ) → duration_of text ≡ Some n → duration_of (duration_text n) ≡ Some n
duration_back text n e = durations n (micros_within text n e)

size_few : (digits : List ℕ) (unit n : ℕ) → size_in digits unit ≡ Some n → n ≤ 2 ^ 63 - 1
size_few digits unit n e =
    let found = cond_some (is_number digits && leb (digits_value 10 digits * unit) (2 ^ 63 - 1)) (digits_value 10 digits * unit) n e in
    let both = and_parts (is_number digits) (leb (digits_value 10 digits * unit) (2 ^ 63 - 1)) found.0 in
    subst (λ (k : ℕ). k ≤ 2 ^ 63 - 1) found.1 (leb-true (digits_value 10 digits * unit) (2 ^ 63 - 1) both.1)

size_within : (digits : List ℕ) (unit : Option ℕ) (n : ℕ) → option_and_then (size_in digits) unit ≡ Some n → n ≤ 2 ^ 63 - 1
size_within digits unit n e = option_and_then_some (size_in digits) unit n e (λ u is found. size_few digits u n found)

pub size_back : (text : List ℕ) (n : ℕ) → size_of text ≡ Some n → size_of (decimal n) ≡ Some n
size_back text n e =
    let digits = take_while is_ascii_digit text in sizes n (size_within digits (unit_bytes (drop (length digits) text)) n e)

billionths_few : (whole fraction : List ℕ) (n : ℕ) → billionths_in (whole, fraction) ≡ Some n → n ≤ 9 * 10 ^ 18
billionths_few whole fraction n e =
    let found = cond_some (leb (length fraction) 9 && leb (scaled 9 whole fraction) (9 * 10 ^ 18)) (scaled 9 whole fraction) n e in
    let both = and_parts (leb (length fraction) 9) (leb (scaled 9 whole fraction) (9 * 10 ^ 18)) found.0 in
    subst (λ (k : ℕ). k ≤ 9 * 10 ^ 18) found.1 (leb-true (scaled 9 whole fraction) (9 * 10 ^ 18) both.1)

pub decimal_back : (text : List ℕ) (n : ℕ) → decimal_of text ≡ Some n → decimal_of (decimal_text n) ≡ Some n
decimal_back text n e = decimals n (option_and_then_some billionths_in (digit_runs text) n e (λ runs is found. billionths_few runs.0 runs.1 n found))

target_printed : (n : ℕ) → 0 < n → n ≤ 65535 → target_in (decimal n) ≡ Some n
target_printed n some most =
    ap (option_and_then (λ (m : ℕ). cond (ltb 0 m) (Some m) None)) (number_back n most) ∙ cond-true (ltb 0 n) (Some n) None (lt-ltb 0 n some)

pub target_again : (text : List ℕ) (n : ℕ) → target_in text ≡ Some n → target_in (decimal n) ≡ Some n
target_again text n e =
    option_and_then_some (λ (m : ℕ). cond (ltb 0 m) (Some m) None) (number_up_to 65535 text) n e
    (λ m is found.
    let some = cond_some (ltb 0 m) m n found in
    subst (λ (k : ℕ). target_in (decimal k) ≡ Some k) some.1 (target_printed m (ltb-true 0 m some.0) (number_is 65535 text m is).within))

pub published_again : (text printed : List ℕ) → published_in text ≡ Some printed → published_in printed ≡ Some printed
published_again text printed e = by (cut_once 45 text) e
  where
    by : (cut : Option (List ℕ × List ℕ)) → option_map (as_published text) (span_in text cut) ≡ Some printed → published_in printed ≡ Some printed
    by None f =
        option_map_some (as_published text) (span_in text None) printed f
        (λ span is same.
        option_map_some _ (number_up_to 65535 text) span is
        (λ n found made.
        let printed_so : decimal n ≡ printed = ap (as_published text) made ∙ same in
        subst (λ (t : List ℕ). published_in t ≡ Some t) printed_so (ap (option_map (as_published (decimal n))) (span_back n (number_is 65535 text n found).within))))
    by (Some cut) f =
        option_map_some (as_published text) (span_in text (Some cut)) printed f
        (λ span is same.
        option_and_then_some (λ a. option_and_then (range a) (number_up_to 65535 cut.1)) (number_up_to 65535 cut.0) span is
        (λ a first more.
        option_and_then_some (range a) (number_up_to 65535 cut.1) span more
        (λ b last found.
        let spelled : text ≡ printed = ap (as_published text) (cond_some (leb a b && ltb (b - a) 1000) _ span found).1 ∙ same in
        subst (λ (t : List ℕ). published_in t ≡ Some printed) spelled e)))
