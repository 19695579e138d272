-- Numbers as they are printed.
use Rattle.std.proofs.Common.{◌≡◌, ℕ, suc, zero, ◌+◌, ◌*◌, ◌-◌, ◌/◌, ◌%◌, ◌^◌, ◌<◌, ◌≤◌, Bool, true, false, not, List, [], ◌∷◌, ◌++◌, length, length-append, take, drop, Some, None, cond, eqb, ltb, refl, ap, sym, ◌∙◌, ⊎_elim, subst, lit<, arith}
use Rattle.std.proofs.lemmas.Bool.{and_from, and_parts, cases_Bool, cond-false, cond-true, eqb-true, le-leb, le-ltb, lt-ltb}
use Rattle.std.proofs.lemmas.Bool.Decides.{nat_tests}
use Rattle.std.proofs.lemmas.Fmt.{decimal_is_IsNumeral}
use Rattle.std.proofs.lemmas.List.{drop_all, take_all, take_at}
use Rattle.std.proofs.lemmas.Nat.{pow-add}
use Rattle.std.proofs.Math.Nat.{div-lt_iff_lt-mul, one-le-pow}
use Rattle.std.specs.Char.{digit_value, is_ascii_digit}
use Rattle.std.specs.Fmt.{decimal}
use Rattle.std.specs.List.{list_all, position_or_len, prefix_len}
use Rattle.std.specs.Option.{option_and_then, option_map}
use Rattle.std.specs.Str.Parse.{AllDigits, digits_value, digits_value_after}
use Rattle.short_forms.specs.Cuts.{cut_once}
use Rattle.short_forms.specs.Decimals.{billionths_in, decimal_of}
use Rattle.short_forms.specs.Digits.{digit_runs, is_number, runs_of, scaled}
use Rattle.short_forms.specs.Laws.{DecimalsReadBack, SizesReadBack}
use Rattle.short_forms.specs.Printed.{decimal_text, fraction_text}
use Rattle.short_forms.specs.Sizes.{size_in, unit_bytes}
use Rattle.short_forms.proofs.DigitLemmas.{after_digits}

digit_from_value : (c : ℕ) → digit_value c < 10 → is_ascii_digit c ≡ true
digit_from_value c small = grind (arith, nat_tests)

all_digits : (ds : List ℕ) → AllDigits 10 ds → list_all is_ascii_digit ds ≡ true
all_digits [] h = refl
all_digits (d ∷ ds) h = and_from _ _ (digit_from_value d h.0) (all_digits ds h.1)

-- what is printed of a number is one, and writes it
pub decimal_digits : (n : ℕ) → n < 2 ^ 64 → list_all is_ascii_digit (decimal n) ≡ true
decimal_digits n small = all_digits (decimal n) (decimal_is_IsNumeral n small).0.1

pub decimal_number : (n : ℕ) → n < 2 ^ 64 → is_number (decimal n) ≡ true
decimal_number n small = and_from _ _ (lt-ltb 0 (length (decimal n)) (decimal_is_IsNumeral n small).0.0) (decimal_digits n small)

pub decimal_value : (n : ℕ) → n < 2 ^ 64 → digits_value 10 (decimal n) ≡ n
decimal_value n small = (decimal_is_IsNumeral n small).1

-- all of a text of digits is its digits
pub all_prefix : (p : ℕ → Bool) (xs : List ℕ) → list_all p xs ≡ true → prefix_len p xs ≡ length xs
all_prefix p [] e = refl
all_prefix p (x ∷ xs) e = let both = and_parts (p x) (list_all p xs) e in cond-true _ _ _ both.0 ∙ (let rest = all_prefix p xs both.1 in omega arith)

-- a test that follows from another one
pub all_weaker : (p q : ℕ → Bool) → ((b : ℕ) → p b ≡ true → q b ≡ true) → (xs : List ℕ) → list_all p xs ≡ true → list_all q xs ≡ true
all_weaker p q each [] e = refl
all_weaker p q each (x ∷ xs) e = let both = and_parts (p x) (list_all p xs) e in and_from _ _ (each x both.0) (all_weaker p q each xs both.1)

-- the front that passes a test, before an element that doesn't
pub front_len : (p : ℕ → Bool) (ds : List ℕ) (b : ℕ) (bs : List ℕ) → list_all p ds ≡ true → p b ≡ false → prefix_len p (ds ++ (b ∷ bs)) ≡ length ds
front_len p [] b bs d e = cond-false _ _ _ e
front_len p (x ∷ ds) b bs d e = let both = and_parts (p x) (list_all p ds) d in cond-true _ _ _ both.0 ∙ (let rest = front_len p ds b bs both.1 e in omega arith)

-- digits alone have no point
no_point : (ds : List ℕ) → list_all is_ascii_digit ds ≡ true → cut_once 46 ds ≡ None
no_point ds e =
    let none : position_or_len (λ b. eqb b 46) ds ≡ length ds = all_prefix (λ b. not (eqb b 46)) ds (all_weaker is_ascii_digit (λ b. not (eqb b 46)) (λ b h. grind (arith, nat_tests)) ds e) in
    ap (option_map (λ n. (take n ds, drop (n + 1) ds))) (cond-false _ _ _ (le-ltb (position_or_len (λ b. eqb b 46) ds) (length ds) (omega arith)))

pub digits_alone : (ds : List ℕ) → is_number ds ≡ true → digit_runs ds ≡ Some (ds, [])
digits_alone ds e = ap (runs_of ds) (no_point ds (and_parts (ltb 0 (length ds)) (list_all is_ascii_digit ds) e).1) ∙ cond-true _ _ _ e

size_at : (digits unit : List ℕ) (n : ℕ) → is_number digits ≡ true → digits_value 10 digits ≡ n → n ≤ 2 ^ 63 - 1 → unit ≡ [] → option_and_then (size_in digits) (unit_bytes unit) ≡ Some n
size_at digits unit n e v small none =
    ap (λ u. option_and_then (size_in digits) (unit_bytes u)) none
    ∙ cond-true _ _ _ (and_from _ _ e (le-leb (digits_value 10 digits * 1) (2 ^ 63 - 1) (omega arith)))
    ∙ (let same : digits_value 10 digits * 1 ≡ n = omega arith in ap Some same)

pub sizes : SizesReadBack
sizes n small =
    let fits : n < 2 ^ 64 = omega arith in
    let len = all_prefix is_ascii_digit (decimal n) (decimal_digits n fits) in
    let all : take (prefix_len is_ascii_digit (decimal n)) (decimal n) ≡ decimal n = take_all _ (decimal n) (omega arith) in
    size_at (take (prefix_len is_ascii_digit (decimal n)) (decimal n)) (drop (length (take (prefix_len is_ascii_digit (decimal n)) (decimal n))) (decimal n)) n
    (ap is_number all ∙ decimal_number n fits) (ap (digits_value 10) all ∙ decimal_value n fits) small (drop_all _ (decimal n) (omega (arith, ap length all)))

-- a point between digits
point_len : (ds fs : List ℕ) → list_all is_ascii_digit ds ≡ true → position_or_len (λ b. eqb b 46) (ds ++ (46 ∷ fs)) ≡ length ds
point_len ds fs e = front_len (λ b. not (eqb b 46)) ds 46 fs (all_weaker is_ascii_digit (λ b. not (eqb b 46)) (λ b h. grind (arith, nat_tests)) ds e) refl

cut_at_point : (ds fs : List ℕ) → list_all is_ascii_digit ds ≡ true → cut_once 46 (ds ++ (46 ∷ fs)) ≡ Some (ds, fs)
cut_at_point ds fs e =
    let text = ds ++ (46 ∷ fs) in
    let len = point_len ds fs e in
    let within : position_or_len (λ b. eqb b 46) text < length text = omega (arith, length-append ds (46 ∷ fs)) in
    let front : take (position_or_len (λ b. eqb b 46) text) text ≡ ds = take_at ds (46 ∷ fs) _ (sym len) in
    let back : drop (position_or_len (λ b. eqb b 46) text + 1) text ≡ fs = ap (λ n. drop (n + 1) text) len ∙ drop_behind ds in
    ap (option_map (λ n. (take n text, drop (n + 1) text))) (cond-true _ _ _ (lt-ltb _ (length text) within)) ∙ (λ i. Some (front i, back i))
  where
    drop_behind : (ds : List ℕ) → drop (length ds + 1) (ds ++ (46 ∷ fs)) ≡ fs
    drop_behind [] = refl
    drop_behind (d ∷ ds) = ap (λ n. drop n (d ∷ (ds ++ (46 ∷ fs)))) (let same : suc (length ds) + 1 ≡ suc (length ds + 1) = omega arith in same) ∙ drop_behind ds

digits_around : (ds fs : List ℕ) → is_number ds ≡ true → is_number fs ≡ true → digit_runs (ds ++ (46 ∷ fs)) ≡ Some (ds, fs)
digits_around ds fs d f =
    ap (runs_of (ds ++ (46 ∷ fs))) (cut_at_point ds fs (and_parts (ltb 0 (length ds)) (list_all is_ascii_digit ds) d).1)
    ∙ cond-true _ _ _ (and_from _ _ d f)

-- the places behind the point: digits, few enough, and they write the parts
record Writes (places parts : ℕ) (text : List ℕ) : Type 0 where
  pub digits : list_all is_ascii_digit text ≡ true
  pub few : length text ≤ places
  pub value : digits_value 10 text * 10 ^ (places - length text) ≡ parts

one_digit : (d : ℕ) → d < 10 → (is_ascii_digit (48 + d) ≡ true) × (digit_value (48 + d) ≡ d)
one_digit d small = (grind (arith, nat_tests), grind (arith, nat_tests))

writes_more : (places d rest : ℕ) (text : List ℕ) → d < 10 → Writes places rest text → Writes (suc places) (d * 10 ^ places + rest) ((48 + d) ∷ text)
writes_more places d rest text small w =
    let one = one_digit d small in
    let left : suc places - suc (length text) ≡ places - length text = omega arith in
    let sum : length text + (places - length text) ≡ places = omega (arith, w.few) in
    let power : 10 ^ length text * 10 ^ (places - length text) ≡ 10 ^ places = sym (pow-add 10 (length text) (places - length text)) ∙ ap (λ n. 10 ^ n) sum in
    let first : digits_value 10 ((48 + d) ∷ text) ≡ d * 10 ^ length text + digits_value 10 text = ap (λ n. digits_value_after 10 (0 * 10 + n) text) one.1 ∙ after_digits (0 * 10 + d) text ∙ (let same : (0 * 10 + d) * 10 ^ length text + digits_value 10 text ≡ d * 10 ^ length text + digits_value 10 text = ap (λ n. n * 10 ^ length text + digits_value 10 text) (omega arith) in same) in
    record {
      digits = and_from _ _ one.0 w.digits;
      few = omega (arith, w.few);
      value = rw (first, left) (omega (arith, w.value, ap (λ n. d * n) power));
    }

fraction_writes : (places parts : ℕ) → parts < 10 ^ places → Writes places parts (fraction_text places parts)
fraction_writes zero parts small = record { digits = refl; few = omega arith; value = omega arith }
fraction_writes (suc places) parts small =
    ⊎_elim none (some (fraction_writes places (parts % 10 ^ places) (let positive : 1 ≤ 10 ^ places = one-le-pow places 10 (lit< tt) in omega arith))) (cases_Bool (eqb parts 0))
  where
    none : eqb parts 0 ≡ true → Writes (suc places) parts (fraction_text (suc places) parts)
    none t =
        let P : Bool → Type 0 = λ c. Writes (suc places) parts (cond c [] ((48 + parts / 10 ^ places) ∷ fraction_text places (parts % 10 ^ places))) in
        subst P (sym t) (record { digits = refl; few = omega arith; value = omega (arith, eqb-true parts 0 t) })

    some : Writes places (parts % 10 ^ places) (fraction_text places (parts % 10 ^ places)) → eqb parts 0 ≡ false → Writes (suc places) parts (fraction_text (suc places) parts)
    some rest t =
        let more = (48 + parts / 10 ^ places) ∷ fraction_text places (parts % 10 ^ places) in
        let P : Bool → Type 0 = λ c. Writes (suc places) parts (cond c [] more) in
        let Q : ℕ → Type 0 = λ n. Writes (suc places) n more in
        let positive : 1 ≤ 10 ^ places = one-le-pow places 10 (lit< tt) in
        let below : parts < 10 * 10 ^ places = omega arith in
        let digit : parts / 10 ^ places < 10 = (div-lt_iff_lt-mul (omega arith)).1 below in
        let whole : parts / 10 ^ places * 10 ^ places + parts % 10 ^ places ≡ parts = omega arith in
        subst P (sym t) (subst Q whole (writes_more places (parts / 10 ^ places) (parts % 10 ^ places) (fraction_text places (parts % 10 ^ places)) digit rest))

some_places : (places parts : ℕ) → 0 < places → eqb parts 0 ≡ false → 0 < length (fraction_text places parts)
some_places zero parts some t = absurd (omega arith)
some_places (suc places) parts some t =
    let len = ap (λ c. length (cond c [] ((48 + parts / 10 ^ places) ∷ fraction_text places (parts % 10 ^ places)))) t in omega arith

billionths_read : (ds fs : List ℕ) (n : ℕ) → length fs ≤ 9 → scaled 9 ds fs ≡ n → n ≤ 9 * 10 ^ 18 → billionths_in (ds, fs) ≡ Some n
billionths_read ds fs n few e small = cond-true _ _ _ (and_from _ _ (le-leb (length fs) 9 few) (le-leb (scaled 9 ds fs) (9 * 10 ^ 18) (omega arith))) ∙ ap Some e

module _ (n : ℕ) (small : n ≤ 9 * 10 ^ 18) where
  fits : n / 10 ^ 9 < 2 ^ 64
  fits = omega arith

  without_point : eqb (n % 10 ^ 9) 0 ≡ true → decimal_of (decimal (n / 10 ^ 9)) ≡ Some n
  without_point t =
      let value = decimal_value (n / 10 ^ 9) fits in
      ap (option_and_then billionths_in) (digits_alone (decimal (n / 10 ^ 9)) (decimal_number (n / 10 ^ 9) fits))
      ∙ billionths_read (decimal (n / 10 ^ 9)) [] n (omega arith) (omega (arith, value, eqb-true (n % 10 ^ 9) 0 t)) small

  with_point : eqb (n % 10 ^ 9) 0 ≡ false → (fs : List ℕ) → Writes 9 (n % 10 ^ 9) fs → 0 < length fs → decimal_of (decimal (n / 10 ^ 9) ++ 46 ∷ fs) ≡ Some n
  with_point t fs w some =
      let value = decimal_value (n / 10 ^ 9) fits in
      ap (option_and_then billionths_in) (digits_around (decimal (n / 10 ^ 9)) fs (decimal_number (n / 10 ^ 9) fits) (and_from _ _ (lt-ltb 0 (length fs) some) w.digits))
      ∙ billionths_read (decimal (n / 10 ^ 9)) fs n w.few (omega (arith, value, w.value)) small

pub decimals : DecimalsReadBack
decimals n small = ⊎_elim none some (cases_Bool (eqb (n % 10 ^ 9) 0))
  where
    none : eqb (n % 10 ^ 9) 0 ≡ true → decimal_of (decimal_text n) ≡ Some n
    none t = ap (λ c. decimal_of (cond c (decimal (n / 10 ^ 9)) (decimal (n / 10 ^ 9) ++ 46 ∷ fraction_text 9 (n % 10 ^ 9)))) t ∙ without_point n small t

    some : eqb (n % 10 ^ 9) 0 ≡ false → decimal_of (decimal_text n) ≡ Some n
    some t =
        ap (λ c. decimal_of (cond c (decimal (n / 10 ^ 9)) (decimal (n / 10 ^ 9) ++ 46 ∷ fraction_text 9 (n % 10 ^ 9)))) t
        ∙ with_point n small t (fraction_text 9 (n % 10 ^ 9)) (fraction_writes 9 (n % 10 ^ 9) (omega arith)) (some_places 9 (n % 10 ^ 9) (omega arith) t)
