-- Numbers in digits.
use Rattle.std.proofs.Common.{min, ⊎_elim, length-append, length-take, length-drop, ◌≡◌, ℕ, suc, zero, ◌+◌, ◌*◌, ◌-◌, ◌^◌, ◌<◌, ◌≤◌, true, false, ◌&&◌, List, [], ◌∷◌, ◌++◌, length, get_or, take, drop, Some, None, cond, leb, refl, ap, sym, ◌∙◌, arith, lit<}
use Rattle.std.proofs.lemmas.List.{drop_all, drop_min, take_all, take_min, take-append-drop}
use Rattle.std.proofs.lemmas.Bool.{cases_Bool, cases_lt, and_parts, and_right, and_left, cond-false, lt-leb}
use Rattle.std.proofs.lemmas.Bool.Decides.{nat_tests}
use Rattle.std.proofs.lemmas.List.Folds.{list_all-append}
use Rattle.std.proofs.lemmas.Nat.{pow-add}
use Rattle.std.proofs.Math.Nat.{mul-le-mul_left, one-le-pow, pow-le-pow_right}
use Rattle.std.proofs.lemmas.Int.Digits.{digits_value_more, digits_value-lt}
use Rattle.std.specs.Char.{digit_value, is_ascii_digit}
use Rattle.std.specs.List.{list_all}
use Rattle.std.specs.Str.Parse.{AllDigits, digits_value, digits_value_after}
use Rattle.short_forms.specs.Digits.{is_number, number_up_to}
use Rattle.short_forms.specs.Sizes.{size_in}

-- more digits don't make less
after_ge : (n : ℕ) (ds : List ℕ) → n ≤ digits_value_after 10 n ds
after_ge n [] = omega arith
after_ge n (d ∷ ds) = omega (arith, after_ge (n * 10 + digit_value d) ds)

after_take : (n : ℕ) (ds : List ℕ) (i : ℕ) → digits_value_after 10 n (take i ds) ≤ digits_value_after 10 n ds
after_take n ds zero = after_ge n ds
after_take n [] (suc i) = omega arith
after_take n (d ∷ ds) (suc i) = after_take (n * 10 + digit_value d) ds i

pub value_more-le : (ds : List ℕ) (i : ℕ) → i < length ds → digits_value 10 (take i ds) * 10 + digit_value (get_or ds i 0) ≤ digits_value 10 ds
value_more-le ds i within = omega (arith, digits_value_more 10 ds i within, after_take 0 ds (i + 1))

-- a text of digits is one of numbers below ten
digit_below : (c : ℕ) → is_ascii_digit c ≡ true → digit_value c < 10
digit_below c e = grind (arith, nat_tests)

pub are_digits : (ds : List ℕ) → list_all is_ascii_digit ds ≡ true → AllDigits 10 ds
are_digits [] e = tt
are_digits (d ∷ ds) e = let both = and_parts (is_ascii_digit d) (list_all is_ascii_digit ds) e in (digit_below d both.0, are_digits ds both.1)

pub value-lt : (ds : List ℕ) → list_all is_ascii_digit ds ≡ true → digits_value 10 ds < 10 ^ length ds
value-lt ds e = digits_value-lt 10 ds (are_digits ds e)

pub value_small : (ds : List ℕ) → list_all is_ascii_digit ds ≡ true → length ds ≤ 20 → digits_value 10 ds < 10 ^ 20
value_small ds e few = let most : 10 ^ length ds ≤ 10 ^ 20 = pow-le-pow_right (lit< tt) few in omega (arith, value-lt ds e)

-- so many digits, filled up by zeros to some places
pub padded-lt : (ds : List ℕ) (places : ℕ) → list_all is_ascii_digit ds ≡ true → length ds ≤ places → digits_value 10 ds * 10 ^ (places - length ds) < 10 ^ places
padded-lt ds places e enough =
    let k = places - length ds in
    let some : 1 ≤ 10 ^ k = one-le-pow k 10 (lit< tt) in
    let fits : digits_value 10 ds + 1 ≤ 10 ^ length ds = omega (arith, value-lt ds e) in
    let below : 10 ^ k * (digits_value 10 ds + 1) ≤ 10 ^ k * 10 ^ length ds = mul-le-mul_left (10 ^ k) fits in
    let whole : 10 ^ places ≡ 10 ^ k * 10 ^ length ds = ap (λ n. 10 ^ n) (omega arith) ∙ pow-add 10 k (length ds) in
    omega arith

pub padded_small : (ds : List ℕ) (places : ℕ) → list_all is_ascii_digit ds ≡ true → length ds ≤ places → places ≤ 20 → digits_value 10 ds * 10 ^ (places - length ds) < 10 ^ 20
padded_small ds places e enough few = let most : 10 ^ places ≤ 10 ^ 20 = pow-le-pow_right (lit< tt) few in omega (arith, padded-lt ds places e enough)

-- what is no number, or too large a one, gives none
pub no_number : (most : ℕ) (ds : List ℕ) → list_all is_ascii_digit ds ≡ false → number_up_to most ds ≡ None
no_number most ds e = cond-false _ _ _ (and_left _ _ (and_right _ _ e))

pub too_large : (most : ℕ) (ds : List ℕ) → most < digits_value 10 ds → number_up_to most ds ≡ None
too_large most ds more = cond-false _ _ _ (and_right _ _ (lt-leb _ _ more))

-- what a test against a limit says
pub limit_none : (n most : ℕ) → cond (leb n most) (Some n) None ≡ None → most < n
limit_none n most e = grind (arith, nat_tests)

pub limit_some : (n most m : ℕ) → cond (leb n most) (Some n) None ≡ Some m → (n ≤ most) × (m ≡ n)
limit_some n most m e = grind (arith, nat_tests)

-- digits after others
pub after_digits : (n : ℕ) (ds : List ℕ) → digits_value_after 10 n ds ≡ n * 10 ^ length ds + digits_value 10 ds
after_digits n [] = omega arith
after_digits n (d ∷ ds) =
    let first = after_digits (n * 10 + digit_value d) ds in
    let rest = after_digits (0 * 10 + digit_value d) ds in
    let power : 10 ^ suc (length ds) ≡ 10 * 10 ^ length ds = omega arith in
    rw (first, rest, power) (omega arith)

value_append : (xs ys : List ℕ) → digits_value 10 (xs ++ ys) ≡ digits_value 10 xs * 10 ^ length ys + digits_value 10 ys
value_append xs ys = value_onto 0 xs ys ∙ after_digits (digits_value 10 xs) ys
  where
    value_onto : (n : ℕ) (xs ys : List ℕ) → digits_value_after 10 n (xs ++ ys) ≡ digits_value_after 10 (digits_value_after 10 n xs) ys
    value_onto n [] ys = refl
    value_onto n (x ∷ xs) ys = value_onto (n * 10 + digit_value x) xs ys

-- what a limit says of a number
pub over_limit : (most : ℕ) (ds : List ℕ) → is_number ds ≡ true → number_up_to most ds ≡ None → most < digits_value 10 ds
over_limit most ds e none = limit_none _ _ (sym (ap (λ t. cond (t && leb (digits_value 10 ds) most) (Some (digits_value 10 ds)) None) e) ∙ none)

pub within_limit : (most : ℕ) (ds : List ℕ) (n : ℕ) → is_number ds ≡ true → number_up_to most ds ≡ Some n → (digits_value 10 ds ≤ most) × (n ≡ digits_value 10 ds)
within_limit most ds n e some = limit_some _ _ _ (sym (ap (λ t. cond (t && leb (digits_value 10 ds) most) (Some (digits_value 10 ds)) None) e) ∙ some)

-- 39 digits, filled up by zeros, in 20 and 19 of them
halves_short : (ds : List ℕ) → length ds ≤ 20 → digits_value 10 ds * 10 ^ (20 - length ds) * 10 ^ 19 ≡ digits_value 10 ds * 10 ^ (39 - length ds)
halves_short ds few =
    let power : 10 ^ (39 - length ds) ≡ 10 ^ (20 - length ds) * 10 ^ 19 = ap (λ n. 10 ^ n) (omega arith) ∙ pow-add 10 (20 - length ds) 19 in
    rw power (omega arith)

halves_long : (xs ys : List ℕ) → length xs ≡ 20 → length ys ≤ 19
    → digits_value 10 xs * 10 ^ (20 - length xs) * 10 ^ 19 + digits_value 10 ys * 10 ^ (19 - length ys) ≡ digits_value 10 (xs ++ ys) * 10 ^ (39 - length (xs ++ ys))
halves_long xs ys full few =
    let none : 10 ^ (20 - length xs) ≡ 1 = ap (λ n. 10 ^ (20 - n)) full in
    let left : 39 - length (xs ++ ys) ≡ 19 - length ys = omega (arith, length-append xs ys) in
    let sum : length ys + (19 - length ys) ≡ 19 = omega arith in
    let power : 10 ^ length ys * 10 ^ (19 - length ys) ≡ 10 ^ 19 = sym (pow-add 10 (length ys) (19 - length ys)) ∙ ap (λ n. 10 ^ n) sum in
    rw (none, value_append xs ys, left) (omega (arith, ap (λ n. digits_value 10 xs * n) power))

abbrev Halves : List ℕ → ℕ → Type 0
Halves ds k = digits_value 10 (take k ds) * 10 ^ (20 - length (take k ds)) * 10 ^ 19 + digits_value 10 (drop k ds) * 10 ^ (19 - length (drop k ds)) ≡ digits_value 10 ds * 10 ^ (39 - length ds)

all_in_first : (ds : List ℕ) (k : ℕ) → length ds ≤ 20 → k ≡ length ds → Halves ds k
all_in_first ds k few e =
    let all : take k ds ≡ ds = take_all k ds (omega arith) in
    let none : drop k ds ≡ [] = drop_all k ds (omega arith) in
    rw (all, none) (omega (arith, halves_short ds few))

first_full : (ds : List ℕ) (k : ℕ) → length ds ≤ 39 → 20 ≤ length ds → k ≡ 20 → Halves ds k
first_full ds k few many e =
    let front : length (take k ds) ≡ 20 = omega (arith, length-take k ds) in
    let back : length (drop k ds) ≤ 19 = omega (arith, length-drop k ds) in
    halves_long (take k ds) (drop k ds) front back ∙ ap (λ s. digits_value 10 s * 10 ^ (39 - length s)) (take-append-drop k ds)

pub halves : (ds : List ℕ) (k : ℕ) → length ds ≤ 39 → k ≡ min (length ds) 20
    → digits_value 10 (take k ds) * 10 ^ (20 - length (take k ds)) * 10 ^ 19 + digits_value 10 (drop k ds) * 10 ^ (19 - length (drop k ds)) ≡ digits_value 10 ds * 10 ^ (39 - length ds)
halves ds k few e = ⊎_elim (λ l. all_in_first ds k (omega arith) (omega arith)) (λ l. first_full ds k few l (omega arith)) (cases_lt (length ds) 20)

-- a part cut at the length or at a limit
pub take_up_to : (n k : ℕ) (ds : List ℕ) → k ≡ min (length ds) n → take k ds ≡ take n ds
take_up_to n k ds e = ap (λ m. take m ds) (omega arith) ∙ take_min n ds

pub drop_up_to : (n k : ℕ) (ds : List ℕ) → k ≡ min (length ds) n → drop k ds ≡ drop n ds
drop_up_to n k ds e = ap (λ m. drop m ds) (omega arith) ∙ drop_min n ds

-- parts of digits are digits
pub digits_cut : (ds : List ℕ) (k : ℕ) → list_all is_ascii_digit ds ≡ true → (list_all is_ascii_digit (take k ds) ≡ true) × (list_all is_ascii_digit (drop k ds) ≡ true)
digits_cut ds k e = and_parts _ _ (sym (list_all-append is_ascii_digit (take k ds) (drop k ds)) ∙ ap (list_all is_ascii_digit) (take-append-drop k ds) ∙ e)

-- more than the greatest size of bytes is more of any unit
pub over_size : (ds : List ℕ) (unit : ℕ) → 1 ≤ unit → number_up_to (2 ^ 63 - 1) ds ≡ None → size_in ds unit ≡ None
over_size ds unit some none = ⊎_elim large wrong (cases_Bool (is_number ds))
  where
    large : is_number ds ≡ true → size_in ds unit ≡ None
    large e =
        let over : 2 ^ 63 - 1 < digits_value 10 ds = over_limit (2 ^ 63 - 1) ds e none in
        let times : digits_value 10 ds * 1 ≤ digits_value 10 ds * unit = mul-le-mul_left (digits_value 10 ds) some in
        cond-false _ _ _ (and_right (is_number ds) (leb (digits_value 10 ds * unit) (2 ^ 63 - 1)) (lt-leb (digits_value 10 ds * unit) (2 ^ 63 - 1) (omega arith)))

    wrong : is_number ds ≡ false → size_in ds unit ≡ None
    wrong e = cond-false _ _ _ (and_left (is_number ds) (leb (digits_value 10 ds * unit) (2 ^ 63 - 1)) e)
