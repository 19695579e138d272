-- Numbers and flags are words that JSON tells from all else.
use Rattle.std.proofs.Common.{◌≡◌, ℕ, ℤ, zero, suc, pos, negsuc, ◌/◌, ◌%◌, ◌+◌, ◌<◌, not, Bool, true, false, cond, eqb, List, [], ◌∷◌, refl, sym, subst, arith}
use Rattle.std.specs.Prelude.{◌==◌}
use Rattle.std.proofs.lemmas.Bool.{and_from, and_parts, le-leb, lt-ltb}
use Rattle.std.proofs.lemmas.Bool.Decides.{nat_tests}
use Rattle.std.specs.Char.{is_ascii_digit}
use Rattle.std.specs.Fmt.{decimal, digit_glyph, digits, digits_onto, signed_decimal}
use Rattle.std.specs.List.{list_all}
use Rattle.laws_pages.specs.Words.{PassesWords, is_word, is_word_byte}
use Rattle.short_forms.specs.MountLaws.{flag_word}

-- one digit or more
pub record AreDigits (ds : List ℕ) : Type 0 where
  pub front : ℕ
  pub more : List ℕ
  pub is : ds ≡ front ∷ more
  pub digits : list_all is_ascii_digit (front ∷ more) ≡ true

glyph_digit : (n : ℕ) → is_ascii_digit (digit_glyph false (n % 10)) ≡ true
glyph_digit n = by (n % 10) (omega arith)
  where
    by : (d : ℕ) → d < 10 → is_ascii_digit (digit_glyph false d) ≡ true
    by d small = rw (lt-ltb d 10 small, le-leb 48 (48 + d) (omega arith), le-leb (48 + d) 57 (omega arith)) refl

-- the last digit of a number
abbrev glyph : ℕ → ℕ
glyph n = digit_glyph false (n % 10)

longer : (n : ℕ) (cs : List ℕ) → list_all is_ascii_digit cs ≡ true → list_all is_ascii_digit (glyph n ∷ cs) ≡ true
longer n cs are = and_from (is_ascii_digit (glyph n)) (list_all is_ascii_digit cs) (glyph_digit n) are

one_of : (b : Bool) (xs ys : List ℕ) → AreDigits xs → AreDigits ys → AreDigits (cond b xs ys)
one_of true xs ys first second = first
one_of false xs ys first second = second

onto_digits : (k n c : ℕ) (cs : List ℕ) → list_all is_ascii_digit (c ∷ cs) ≡ true → AreDigits (digits_onto k 10 false n (c ∷ cs))
onto_digits zero n c cs are = record { front = c; more = cs; is = refl; digits = are }
onto_digits (suc k) n c cs are =
    one_of (eqb (n / 10) 0) (glyph n ∷ c ∷ cs) (digits_onto k 10 false (n / 10) (glyph n ∷ c ∷ cs))
    (record { front = glyph n; more = c ∷ cs; is = refl; digits = longer n (c ∷ cs) are })
    (onto_digits k (n / 10) (glyph n) (c ∷ cs) (longer n (c ∷ cs) are))

first_digits : (k n : ℕ) → 0 < k → AreDigits (digits_onto k 10 false n [])
first_digits zero n some = absurd (omega (arith, some))
first_digits (suc k) n some =
    one_of (eqb (n / 10) 0) (glyph n ∷ []) (digits_onto k 10 false (n / 10) (glyph n ∷ []))
    (record { front = glyph n; more = []; is = refl; digits = longer n [] refl })
    (onto_digits k (n / 10) (glyph n) [] (longer n [] refl))

onto_nothing : (base : ℕ) (upper : Bool) (n : ℕ) → digits_onto 64 base upper n [] ≡ digits base upper n
unfolding digits
onto_nothing base upper n = refl

-- the digits of a number
pub decimal_is : (n : ℕ) → AreDigits (decimal n)
decimal_is n = subst AreDigits (onto_nothing 10 false n) (first_digits 64 n (omega arith))

digit_byte : (c : ℕ) → is_ascii_digit c ≡ true → is_word_byte c ≡ true
digit_byte c digit = grind (arith, nat_tests)

digit_first : (c : ℕ) → is_ascii_digit c ≡ true → not (c == 110) ≡ true
digit_first c digit = grind (arith, nat_tests)

all_bytes : (ds : List ℕ) → list_all is_ascii_digit ds ≡ true → list_all is_word_byte ds ≡ true
all_bytes [] are = refl
all_bytes (d ∷ ds) are =
    let parts = and_parts (is_ascii_digit d) (list_all is_ascii_digit ds) are in
    and_from (is_word_byte d) (list_all is_word_byte ds) (digit_byte d parts.0) (all_bytes ds parts.1)

digits_word : (d : ℕ) (ds : List ℕ) → list_all is_ascii_digit (d ∷ ds) ≡ true → is_word (d ∷ ds) ≡ true
digits_word d ds are =
    let parts = and_parts (is_ascii_digit d) (list_all is_ascii_digit ds) are in
    and_from (not (d == 110)) (list_all is_word_byte (d ∷ ds)) (digit_first d parts.0) (all_bytes (d ∷ ds) are)

number_bytes : (n : ℕ) → list_all is_word_byte (decimal n) ≡ true
number_bytes n = let are = decimal_is n in subst (λ (ds : List ℕ). list_all is_word_byte ds ≡ true) (sym are.is) (all_bytes (are.front ∷ are.more) are.digits)

number_word : (n : ℕ) → is_word (decimal n) ≡ true
number_word n = let are = decimal_is n in subst (λ (ds : List ℕ). is_word ds ≡ true) (sym are.is) (digits_word are.front are.more are.digits)

integer_word : (z : ℤ) → is_word (signed_decimal z) ≡ true
integer_word (pos n) = number_word n
integer_word (negsuc n) = number_bytes (suc n)

flag_is : (b : Bool) → is_word (flag_word b) ≡ true
flag_is true = refl
flag_is false = refl

pub words_pass : PassesWords is_word
words_pass = record { number = number_word; integer = integer_word; flag = flag_is }
