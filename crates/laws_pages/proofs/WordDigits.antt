-- Numbers and flags are words that are read as they stand.
use Rattle.std.proofs.Common.{◌≡◌, ◌∙◌, ℕ, ℤ, zero, suc, pos, negsuc, ◌/◌, ◌%◌, ◌+◌, ◌<◌, ◌||◌, not, Bool, true, false, cond, eqb, List, [], ◌∷◌, refl, ap, subst, arith}
use Rattle.std.proofs.lemmas.Bool.{and_from, and_parts, le-leb, lt-ltb}
use Rattle.std.proofs.lemmas.Bool.Decides.{nat_tests}
use Rattle.std.specs.Char.{is_ascii_alphanumeric, is_ascii_digit}
use Rattle.std.specs.Fmt.{decimal, digit_glyph, digits, digits_onto, signed_decimal}
use Rattle.std.specs.List.{ends_with, list_all}
use Rattle.project_print.proofs.PlainWords.{apart, ends_later}
use Rattle.project_print.specs.Scalars.{is_plain_byte}
use Rattle.short_forms.specs.MountLaws.{flag_word}
use Rattle.yaml_nodes.specs.Scalars.{is_null_word}
use Rattle.laws_yaml.proofs.Firsts.{excluded}
use Rattle.laws_yaml.proofs.PlainRuns.{byte_below}
use Rattle.laws_yaml.specs.Readable.{begins_word, is_read_as_word, is_unsigned_word}
use Rattle.laws_yaml.proofs.Words.{unsigned_is}

digit_plain : (c : ℕ) → is_ascii_digit c ≡ true → is_plain_byte c ≡ true
digit_plain c digit = grind (arith, nat_tests)

digit_begins : (c : ℕ) → is_ascii_digit c ≡ true → (is_ascii_alphanumeric c || eqb c 47) ≡ true
digit_begins c digit = grind (arith, nat_tests)

all_plain : (ds : List ℕ) → list_all is_ascii_digit ds ≡ true → list_all is_plain_byte ds ≡ true
all_plain [] are = refl
all_plain (d ∷ ds) are =
    let parts = and_parts (is_ascii_digit d) (list_all is_ascii_digit ds) are in
    and_from (is_plain_byte d) (list_all is_plain_byte ds) (digit_plain d parts.0) (all_plain ds parts.1)

unclosed : (d : ℕ) (ds : List ℕ) → list_all is_ascii_digit (d ∷ ds) ≡ true
    → ends_with eqb (d ∷ ds) (58 ∷ []) ≡ false
unclosed d [] are =
    let digit = (and_parts (is_ascii_digit d) true are).0 in
    excluded is_ascii_digit (λ e. ends_with eqb (e ∷ []) (58 ∷ [])) refl d (byte_below d (digit_plain d digit)) digit
unclosed d (e ∷ ds) are =
    let parts = and_parts (is_ascii_digit d) (list_all is_ascii_digit (e ∷ ds)) are in
    ends_later d e ds ∙ unclosed e ds parts.1

no_null : (d : ℕ) (ds : List ℕ) → is_ascii_digit d ≡ true → is_null_word (d ∷ ds) ≡ false
no_null d ds digit = rw (apart is_ascii_digit d 110 digit refl, apart is_ascii_digit d 78 digit refl, apart is_ascii_digit d 126 digit refl) refl

neither : (a b : Bool) → a ≡ false → b ≡ false → not (a || b) ≡ true
neither a b p q = rw (p, q) refl

-- one digit or more is a word without a minus
digits_word : (d : ℕ) (ds : List ℕ) → list_all is_ascii_digit (d ∷ ds) ≡ true → is_unsigned_word (d ∷ ds) ≡ true
digits_word d ds are =
    let parts = and_parts (is_ascii_digit d) (list_all is_ascii_digit ds) are in
    let ends = neither (ends_with eqb (d ∷ ds) (58 ∷ [])) (is_null_word (d ∷ ds)) (unclosed d ds are) (no_null d ds parts.0) in
    and_from (begins_word (d ∷ ds)) _ (digit_begins d parts.0) (and_from (list_all is_plain_byte (d ∷ ds)) _ (all_plain (d ∷ ds) are) ends)

-- one digit or more
record AreDigits (ds : List ℕ) : Type 0 where
  front : ℕ
  more : List ℕ
  is : ds ≡ front ∷ more
  digits : list_all is_ascii_digit (front ∷ more) ≡ true

glyph_digit : (n : ℕ) → is_ascii_digit (digit_glyph false (n % 10)) ≡ true
glyph_digit n = by (n % 10) (omega arith)
  where
    by : (d : ℕ) → d < 10 → is_ascii_digit (digit_glyph false d) ≡ true
    by d small = rw (lt-ltb d 10 small, le-leb 48 (48 + d) (omega arith), le-leb (48 + d) 57 (omega arith)) refl

-- the last digit of a number
abbrev glyph : ℕ → ℕ
glyph n = digit_glyph false (n % 10)

longer : (n : ℕ) (cs : List ℕ) → list_all is_ascii_digit cs ≡ true → list_all is_ascii_digit (glyph n ∷ cs) ≡ true
longer n cs are = and_from (is_ascii_digit (glyph n)) (list_all is_ascii_digit cs) (glyph_digit n) are

one_of : (b : Bool) (xs ys : List ℕ) → AreDigits xs → AreDigits ys → AreDigits (cond b xs ys)
one_of true xs ys first second = first
one_of false xs ys first second = second

onto_digits : (k n c : ℕ) (cs : List ℕ) → list_all is_ascii_digit (c ∷ cs) ≡ true
    → AreDigits (digits_onto k 10 false n (c ∷ cs))
onto_digits zero n c cs are = record { front = c; more = cs; is = refl; digits = are }
onto_digits (suc k) n c cs are =
    one_of (eqb (n / 10) 0) (glyph n ∷ c ∷ cs) (digits_onto k 10 false (n / 10) (glyph n ∷ c ∷ cs))
    (record { front = glyph n; more = c ∷ cs; is = refl; digits = longer n (c ∷ cs) are })
    (onto_digits k (n / 10) (glyph n) (c ∷ cs) (longer n (c ∷ cs) are))

first_digits : (k n : ℕ) → 0 < k → AreDigits (digits_onto k 10 false n [])
first_digits zero n some = absurd (omega (arith, some))
first_digits (suc k) n some =
    one_of (eqb (n / 10) 0) (glyph n ∷ []) (digits_onto k 10 false (n / 10) (glyph n ∷ []))
    (record { front = glyph n; more = []; is = refl; digits = longer n [] refl })
    (onto_digits k (n / 10) (glyph n) [] (longer n [] refl))

onto_nothing : (base : ℕ) (upper : Bool) (n : ℕ) → digits_onto 64 base upper n [] ≡ digits base upper n
unfolding digits
onto_nothing base upper n = refl

decimal_is : (n : ℕ) → AreDigits (decimal n)
decimal_is n = subst AreDigits (onto_nothing 10 false n) (first_digits 64 n (omega arith))

decimal_word : (n : ℕ) → is_unsigned_word (decimal n) ≡ true
decimal_word n = let are = decimal_is n in ap is_unsigned_word are.is ∙ digits_word are.front are.more are.digits

-- a number
pub number_word : (n : ℕ) → is_read_as_word (decimal n) ≡ true
number_word n = unsigned_is (decimal n) (decimal_word n)

or_right : (a : Bool) → (a || true) ≡ true
or_right true = refl
or_right false = refl

-- a number that may be below zero
pub int_word : (z : ℤ) → is_read_as_word (signed_decimal z) ≡ true
int_word (pos n) = number_word n
int_word (negsuc n) = ap (λ b. is_unsigned_word (45 ∷ decimal (suc n)) || b) (decimal_word (suc n)) ∙ or_right (is_unsigned_word (45 ∷ decimal (suc n)))

-- a flag
pub flag_is : (b : Bool) → is_read_as_word (flag_word b) ≡ true
flag_is true = refl
flag_is false = refl
