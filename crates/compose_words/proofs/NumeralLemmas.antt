-- The number of a text of decimal digits, as `parse` gives it.
use Rattle.std.proofs.Common.{◌≡◌, ℕ, ◌<◌, ◌^◌, true, IsTrue, List, length, subst, sym, arith, rules}
use Rattle.std.specs.Prelude.{Result, Ok, Err, Option}
use Rattle.std.specs.Option.{SomeIff}
use Rattle.std.specs.Result.{result_ok}
use Rattle.std.specs.Str.{all_ascii_digits}
use Rattle.std.specs.Str.Parse.{digits_value, ParsesUnsigned}
use Rattle.std.proofs.lemmas.Bool.Decides.{nat_tests}
use Rattle.std.proofs.lemmas.Str.Parse.{IsNumeralModel, numerals_by_value, tells_all_ascii_digits, parse_digits}
use Rattle.compose_words.specs.Contents.{is_numeral}

own : IsNumeralModel (λ ds. all_ascii_digits ds ≡ true) (digits_value 10)
own = numerals_by_value _ tells_all_ascii_digits

abbrev pub IsParsed : Option ℕ → List ℕ → Type 0
IsParsed number bs = SomeIff number (IsTrue (is_numeral bs) × (digits_value 10 bs < 2 ^ 32)) (digits_value 10 bs)

is_numeral-digits : (bs : List ℕ) → 0 < length bs → all_ascii_digits bs ≡ true → IsTrue (is_numeral bs)
is_numeral-digits bs some digits = search (rules, nat_tests)

positive_from_numeral : (bs : List ℕ) → IsTrue (is_numeral bs) → 0 < length bs
positive_from_numeral bs h = grind (arith, nat_tests)

parsed_at : {E : Type 0} (bs : List ℕ) (r : Result ℕ E) → ParsesUnsigned {E = E} 32 10 bs r → all_ascii_digits bs ≡ true → IsParsed (result_ok r) bs
parsed_at {E} bs (Ok x) h digits =
    let parsed = parse_digits own {E = E} 32 bs (Ok x) h digits in
    ((is_numeral-digits bs parsed.0.0 digits, parsed.0.1), parsed.1)
parsed_at {E} bs (Err e) h digits =
    let parsed = parse_digits own {E = E} 32 bs (Err e) h digits in
    λ fits. parsed (positive_from_numeral bs fits.0, fits.1)

pub numeral_parsed : {E : Type 0} (bs : List ℕ) (r : Result ℕ E) (number : Option ℕ) → ParsesUnsigned {E = E} 32 10 bs r → all_ascii_digits bs ≡ true → number ≡ result_ok r → IsParsed number bs
numeral_parsed {E} bs r number h digits e = subst (λ (n : Option ℕ). IsParsed n bs) (sym e) (parsed_at {E = E} bs r h digits)
