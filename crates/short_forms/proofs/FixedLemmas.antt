-- Sums of microseconds in parts of which 10 ^ 39 make one.
use Rattle.std.proofs.Common.{◌≡◌, ℕ, ◌+◌, ◌*◌, ◌-◌, ◌/◌, ◌^◌, ◌<◌, ◌≤◌, List, ◌∷◌, length, Option, Some, None, refl, ap, sym, ◌∙◌, ⊎_elim, arith}
use Rattle.std.proofs.lemmas.Bool.{and_right, cond-true, cond-false, lt-ltb, le-ltb, lt-leb, cases_lt}
use Rattle.std.proofs.Math.Nat.{mul-le-mul_left}
use Rattle.std.specs.Option.{option_and_then, option_map}
use Rattle.std.specs.Str.Parse.{digits_value}
use Rattle.short_forms.specs.Digits.{scaled}
use Rattle.short_forms.specs.Durations.{amount_of, amounts, sum_of, whole_micros}
use Rattle.short_forms.specs.FixedPoint.{capped, parts_of}
use Rattle.short_forms.specs.declared.fixed_point.FixedPoint.{FixedPoint}

-- more than the greatest duration is capped to none
pub capped_none : (n : ℕ) → (9 * 10 ^ 15 + 1) * 10 ^ 39 ≤ n → capped n ≡ None
capped_none n over = cond-false _ _ _ (le-ltb _ _ over)

pub capped_some : (n : ℕ) → n < (9 * 10 ^ 15 + 1) * 10 ^ 39 → capped n ≡ Some n
capped_some n within = cond-true _ _ _ (lt-ltb _ _ within)

pub over_cap : (n : ℕ) → capped n ≡ None → (9 * 10 ^ 15 + 1) * 10 ^ 39 ≤ n
over_cap n e = ⊎_elim (λ l. let some : Some n ≡ None = sym (capped_some n l) ∙ e in cc) (λ l. l) (cases_lt n ((9 * 10 ^ 15 + 1) * 10 ^ 39))

pub within_cap : (n m : ℕ) → capped n ≡ Some m → m ≡ n
within_cap n m e = ⊎_elim (λ l. let some : Some n ≡ Some m = sym (capped_some n l) ∙ e in cc) (λ l. let none : None ≡ Some m = sym (capped_none n l) ∙ e in cc) (cases_lt n ((9 * 10 ^ 15 + 1) * 10 ^ 39))

-- the two halves of a fraction
pub scaled_within : (whole fraction : List ℕ) (n upper lower : ℕ) → n ≡ digits_value 10 whole → n ≤ 9 * 10 ^ 15
    → upper * 10 ^ 19 + lower ≡ digits_value 10 fraction * 10 ^ (39 - length fraction) → digits_value 10 fraction * 10 ^ (39 - length fraction) < 10 ^ 39
    → Some (n * 10 ^ 39 + upper * 10 ^ 19 + lower) ≡ capped (scaled 39 whole fraction)
scaled_within whole fraction n upper lower e within halves small =
    let same : n * 10 ^ 39 + upper * 10 ^ 19 + lower ≡ scaled 39 whole fraction = omega arith in
    ap Some same ∙ sym (capped_some (scaled 39 whole fraction) (omega arith))

-- the parts of an amount, by those of its number and the microseconds of its unit
abbrev pub times : Option ℕ → Option ℕ → Option ℕ
times number unit = option_and_then (λ parts. option_map (λ micros. parts * micros) unit) number

abbrev pub summed : ℕ → Option ℕ → Option ℕ
summed total amount = option_and_then (λ more. capped (total + more)) amount

pub no_unit : (total : ℕ) (number unit : Option ℕ) → unit ≡ None → None ≡ summed total (times number unit)
no_unit total None unit e = refl
no_unit total (Some parts) unit e = ap (λ u. summed total (option_map (λ micros. parts * micros) u)) (sym e)

pub no_number : (total u : ℕ) (number unit : Option ℕ) → unit ≡ Some u → 1 ≤ u → option_and_then capped number ≡ None → None ≡ summed total (times number unit)
no_number total u None unit e some none = refl
no_number total u (Some parts) unit e some none =
    let over : (9 * 10 ^ 15 + 1) * 10 ^ 39 ≤ parts = over_cap parts none in
    let times_one : parts * 1 ≤ parts * u = mul-le-mul_left parts some in
    sym (capped_none (total + parts * u) (omega arith)) ∙ ap (λ v. summed total (option_map (λ micros. parts * micros) v)) (sym e)

pub sum_given : (total p u : ℕ) (number unit : Option ℕ) → unit ≡ Some u → option_and_then capped number ≡ Some p → capped (total + p * u) ≡ summed total (times number unit)
sum_given total p u None unit e some = absurd (let h : ⊥ = cc in h)
sum_given total p u (Some parts) unit e some =
    let same : p ≡ parts = within_cap parts p some in
    ap (λ n. capped (total + n * u)) same ∙ ap (λ v. summed total (option_map (λ micros. parts * micros) v)) (sym e)

-- the duration of what is left of a text, behind a sum
abbrev pub left : ℕ → List ℕ → Option ℕ
left total rest = option_and_then whole_micros (option_map (λ more. total + more) (sum_of (amounts rest)))

over_micros : (n : ℕ) → (9 * 10 ^ 15 + 1) * 10 ^ 39 ≤ n → whole_micros n ≡ None
over_micros n over = cond-false _ _ _ (and_right _ _ (lt-leb (n / 10 ^ 39) (9 * 10 ^ 15) (omega arith)))

-- one more amount
abbrev after : ℕ → Option ℕ → Option ℕ → Option ℕ
after total amount rest = option_and_then whole_micros (option_map (λ more. total + more) (option_and_then (λ first. option_map (λ more. first + more) rest) amount))

pub left_more : (total : ℕ) (rest amount more : List ℕ) (sum : Option FixedPoint) → amounts rest ≡ amount ∷ amounts more
    → option_map parts_of sum ≡ summed total (amount_of amount) → (t : FixedPoint) → sum ≡ Some t → left (parts_of t) more ≡ left total rest
left_more total rest amount more sum cut e t some =
    at (amount_of amount) (sum_of (amounts more)) (ap (option_map parts_of) (sym some) ∙ e) ∙ ap (λ l. option_and_then whole_micros (option_map (λ m. total + m) (sum_of l))) (sym cut)
  where
    at : (a r : Option ℕ) → Some (parts_of t) ≡ summed total a → option_and_then whole_micros (option_map (λ m. parts_of t + m) r) ≡ after total a r
    at None r e = absurd (let h : ⊥ = cc in h)
    at (Some n) None e = refl
    at (Some n) (Some m) e = let same : parts_of t ≡ total + n = within_cap (total + n) (parts_of t) (sym e) in
        let sums : parts_of t + m ≡ total + (n + m) = omega arith in
        ap whole_micros sums

pub left_stops : (total : ℕ) (rest amount more : List ℕ) (sum : Option FixedPoint) → amounts rest ≡ amount ∷ amounts more
    → option_map parts_of sum ≡ summed total (amount_of amount) → sum ≡ None → left total rest ≡ None
left_stops total rest amount more sum cut e none =
    ap (λ l. option_and_then whole_micros (option_map (λ m. total + m) (sum_of l))) cut ∙ at (amount_of amount) (sum_of (amounts more)) (ap (option_map parts_of) (sym none) ∙ e)
  where
    at : (a r : Option ℕ) → None ≡ summed total a → after total a r ≡ None
    at None r e = refl
    at (Some n) None e = refl
    at (Some n) (Some m) e = let over : (9 * 10 ^ 15 + 1) * 10 ^ 39 ≤ total + n = over_cap (total + n) (sym e) in over_micros (total + (n + m)) (omega arith)
