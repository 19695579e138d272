-- Durations as they are printed read back.
use Rattle.std.proofs.Common.{◌≡◌, ℕ, ◌+◌, ◌*◌, ◌-◌, ◌/◌, ◌%◌, ◌^◌, ◌<◌, ◌≤◌, Bool, true, false, not, ◌&&◌, List, [], ◌∷◌, ◌++◌, length, take, drop, Option, Some, None, cond, eqb, ltb, refl, ap, sym, ◌∙◌, append_assoc, ⊎_elim, arith}
use Rattle.std.proofs.lemmas.Bool.{and_from, and_parts, cond-true, cond-false, and_left, and_right, eqb-false, eqb-true, false_from_ne_true, false≢true, le-leb, eq-eqb, cases_Bool, not-true, not_from_true, or_left}
use Rattle.std.proofs.lemmas.List.{append-nil, drop_at, nil_from_length, take_at}
use Rattle.std.proofs.lemmas.Option.{none-some, same_Some}
use Rattle.std.specs.Char.{is_ascii_digit}
use Rattle.std.specs.Cmp.Lexicographic.{same_text}
use Rattle.std.specs.Fmt.{decimal}
use Rattle.std.specs.List.{list_all, onto_first, prefix_len}
use Rattle.std.specs.Option.{option_and_then, option_map}
use Rattle.std.specs.Prelude.{codes}
use Rattle.std.specs.Str.{bytes_eq}
use Rattle.std.specs.Str.Parse.{digits_value}
use Rattle.short_forms.specs.Digits.{digit_runs, is_number}
use Rattle.short_forms.specs.Durations.{amount_of, amounts, duration_of, is_of_number, parts_in, sum_of, unit_micros, whole_micros}
use Rattle.short_forms.specs.Laws.{DurationsReadBack}
use Rattle.short_forms.specs.Printed.{amount_text, amounts_text, duration_text}
use Rattle.short_forms.proofs.PrintedLemmas.{all_weaker, decimal_digits, decimal_number, decimal_value, digits_alone, front_len}

-- a text that begins with a number, or ends
abbrev starts_amount : List ℕ → Bool
starts_amount [] = true
starts_amount (b ∷ bs) = is_of_number b

-- the letters of a unit end the amount
unit_end : (b : ℕ) (bs rest : List ℕ) → list_all (λ c. not (is_of_number c)) (b ∷ bs) ≡ true → starts_amount rest ≡ true → amounts ((b ∷ bs) ++ rest) ≡ (b ∷ bs) ∷ amounts rest
unit_end b [] [] e s = elim (not (is_of_number b) && is_of_number 0) as (λ t. cond t ((b ∷ []) ∷ []) ((b ∷ []) ∷ []) ≡ (b ∷ []) ∷ []) [ true ↦ refl | false ↦ refl ]
unit_end b [] (r ∷ rest) e s = let both = and_parts (not (is_of_number b)) true e in cond-true _ _ _ (and_from _ _ both.0 s)
unit_end b (c ∷ bs) rest e s =
    let both = and_parts (not (is_of_number b)) (list_all (λ c. not (is_of_number c)) (c ∷ bs)) e in
    let next = and_parts (not (is_of_number c)) (list_all (λ c. not (is_of_number c)) bs) both.1 in
    cond-false _ _ _ (and_right _ _ (not-true (is_of_number c) next.0)) ∙ ap (onto_first b) (unit_end c bs rest both.1 s)

-- the digits before a unit belong to the amount
amount_front : (ds : List ℕ) (b : ℕ) (bs rest : List ℕ) → list_all is_of_number ds ≡ true → list_all (λ c. not (is_of_number c)) (b ∷ bs) ≡ true → starts_amount rest ≡ true
    → amounts (ds ++ ((b ∷ bs) ++ rest)) ≡ (ds ++ (b ∷ bs)) ∷ amounts rest
amount_front [] b bs rest d e s = unit_end b bs rest e s
amount_front (x ∷ ds) b bs rest d e s =
    let both = and_parts (is_of_number x) (list_all is_of_number ds) d in
    cond-false _ _ _ (and_left _ _ (not_from_true (is_of_number x) both.0)) ∙ ap (onto_first x) (amount_front ds b bs rest both.1 e s)

-- a number without a point
number_alone : (ds : List ℕ) → is_number ds ≡ true → option_and_then parts_in (digit_runs ds) ≡ Some (digits_value 10 ds * 10 ^ 39)
number_alone ds e = ap (option_and_then parts_in) (digits_alone ds e) ∙ (let same : digits_value 10 ds * 10 ^ 39 + 0 * 10 ^ 39 ≡ digits_value 10 ds * 10 ^ 39 = omega arith in ap Some same)

abbrev amount_at : List ℕ → List ℕ → Option ℕ
amount_at number unit = option_and_then (λ parts. option_map (λ micros. parts * micros) (unit_micros unit)) (option_and_then parts_in (digit_runs number))

amount_read : (ds : List ℕ) (b : ℕ) (bs : List ℕ) (m : ℕ) → is_number ds ≡ true → not (is_of_number b) ≡ true → unit_micros (b ∷ bs) ≡ Some m
    → amount_of (ds ++ (b ∷ bs)) ≡ Some (digits_value 10 ds * 10 ^ 39 * m)
amount_read ds b bs m e n u =
    let text = ds ++ (b ∷ bs) in
    let of_number = all_weaker is_ascii_digit is_of_number (λ x h. or_left (is_ascii_digit x) (eqb x 46) h) ds (and_parts (ltb 0 (length ds)) (list_all is_ascii_digit ds) e).1 in
    let len = front_len is_of_number ds b bs of_number (not-true (is_of_number b) n) in
    let front : take (prefix_len is_of_number text) text ≡ ds = take_at ds (b ∷ bs) _ (sym len) in
    let back : drop (length (take (prefix_len is_of_number text) text)) text ≡ b ∷ bs = drop_at ds (b ∷ bs) _ (ap length (sym front)) in
    (λ i. amount_at (front i) (back i)) ∙ ap (option_and_then (λ parts. option_map (λ micros. parts * micros) (unit_micros (b ∷ bs)))) (number_alone ds e)
    ∙ ap (option_map (λ micros. digits_value 10 ds * 10 ^ 39 * micros)) u

-- what is printed of a number begins with a digit
begins : (ds rest : List ℕ) → is_number ds ≡ true → starts_amount (ds ++ rest) ≡ true
begins [] rest e = let both = and_parts (ltb 0 0) true e in absurd (false≢true both.0)
begins (d ∷ ds) rest e =
    let digits = (and_parts (ltb 0 (length (d ∷ ds))) (list_all is_ascii_digit (d ∷ ds)) e).1 in
    or_left (is_ascii_digit d) (eqb d 46) (and_parts (is_ascii_digit d) (list_all is_ascii_digit ds) digits).0

module _ (count : ℕ) (b : ℕ) (bs : List ℕ) (m : ℕ) (small : count < 2 ^ 64) (letters : list_all (λ c. not (is_of_number c)) (b ∷ bs) ≡ true) (unit : unit_micros (b ∷ bs) ≡ Some m) (rest : List ℕ) (next : starts_amount rest ≡ true) where
  starts : starts_amount (amount_text count (b ∷ bs) ++ rest) ≡ true
  starts = by (eqb count 0)
    where
      by : (t : Bool) → starts_amount (cond t [] (decimal count ++ (b ∷ bs)) ++ rest) ≡ true
      by true = next
      by false = ap starts_amount (append_assoc (decimal count) (b ∷ bs) rest) ∙ begins (decimal count) ((b ∷ bs) ++ rest) (decimal_number count small)

  sum_front : (total : ℕ) → sum_of (amounts rest) ≡ Some (total * 10 ^ 39) → sum_of (amounts (amount_text count (b ∷ bs) ++ rest)) ≡ Some ((count * m + total) * 10 ^ 39)
  sum_front total e = ⊎_elim none some (cases_Bool (eqb count 0))
    where
      none : eqb count 0 ≡ true → sum_of (amounts (amount_text count (b ∷ bs) ++ rest)) ≡ Some ((count * m + total) * 10 ^ 39)
      none t =
          let zero_count : count ≡ 0 = eqb-true count 0 t in
          let same : total * 10 ^ 39 ≡ (count * m + total) * 10 ^ 39 = rw zero_count (omega arith) in
          ap (λ c. sum_of (amounts (cond c [] (decimal count ++ (b ∷ bs)) ++ rest))) t ∙ e ∙ ap Some same

      some : eqb count 0 ≡ false → sum_of (amounts (amount_text count (b ∷ bs) ++ rest)) ≡ Some ((count * m + total) * 10 ^ 39)
      some t =
          let ds = decimal count in
          let number = decimal_number count small in
          let of_number = all_weaker is_ascii_digit is_of_number (λ x h. or_left (is_ascii_digit x) (eqb x 46) h) ds (decimal_digits count small) in
          let first = and_parts (not (is_of_number b)) (list_all (λ c. not (is_of_number c)) bs) letters in
          let value = decimal_value count small in
          let sums : digits_value 10 ds * 10 ^ 39 * m + total * 10 ^ 39 ≡ (count * m + total) * 10 ^ 39 = rw value (omega arith) in
          ap (λ c. sum_of (amounts (cond c [] (ds ++ (b ∷ bs)) ++ rest))) t
          ∙ ap (λ text. sum_of (amounts text)) (append_assoc ds (b ∷ bs) rest)
          ∙ ap sum_of (amount_front ds b bs rest of_number letters next)
          ∙ (λ i. option_and_then (λ one. option_map (λ more. one + more) (e i)) (amount_read ds b bs m number first.0 unit i))
          ∙ ap Some sums

-- the sum of parts of whole microseconds
whole : (n : ℕ) → n ≤ 9 * 10 ^ 15 → whole_micros (n * 10 ^ 39) ≡ Some n
whole n small =
    let none : n * 10 ^ 39 % 10 ^ 39 ≡ 0 = omega arith in
    let all : n * 10 ^ 39 / 10 ^ 39 ≡ n = omega arith in
    cond-true _ _ _ (and_from _ _ (eq-eqb (n * 10 ^ 39 % 10 ^ 39) 0 none) (le-leb (n * 10 ^ 39 / 10 ^ 39) (9 * 10 ^ 15) (omega arith))) ∙ ap Some all

read_sum : (text : List ℕ) (n : ℕ) → n ≤ 9 * 10 ^ 15 → 0 < n → sum_of (amounts text) ≡ Some (n * 10 ^ 39) → duration_of text ≡ Some n
read_sum text n small some e = ⊎_elim is_zero other (cases_Bool (bytes_eq text (codes "0")))
  where
    is_zero : bytes_eq text (codes "0") ≡ true → duration_of text ≡ Some n
    is_zero t = let none : None ≡ Some (n * 10 ^ 39) = ap (λ s. sum_of (amounts s)) (sym (same_text text (codes "0") (sym t))) ∙ e in absurd (none-some _ none)

    nonempty : eqb (length text) 0 ≡ true → ⊥
    nonempty t =
        let none : text ≡ [] = nil_from_length text (eqb-true (length text) 0 t) in
        let zero_sum : Some 0 ≡ Some (n * 10 ^ 39) = ap (λ s. sum_of (amounts s)) (sym none) ∙ e in
        let same : 0 ≡ n * 10 ^ 39 = same_Some 0 (n * 10 ^ 39) zero_sum in
        omega arith

    other : bytes_eq text (codes "0") ≡ false → duration_of text ≡ Some n
    other t = cond-false _ _ _ t ∙ cond-false _ _ _ (false_from_ne_true _ nonempty) ∙ ap (option_and_then whole_micros) e ∙ whole n small

whole_sum : (n : ℕ) → n ≤ 9 * 10 ^ 15 → sum_of (amounts (amounts_text n)) ≡ Some (n * 10 ^ 39)
whole_sum n small =
    let h = n / 3600000000 in
    let m = n % 3600000000 / 60000000 in
    let s = n % 60000000 / 1000000 in
    let ms = n % 1000000 / 1000 in
    let us = n % 1000 in
    let t5 = amount_text us (codes "us") ++ [] in
    let t4 = amount_text ms (codes "ms") ++ t5 in
    let t3 = amount_text s (codes "s") ++ t4 in
    let t2 = amount_text m (codes "m") ++ t3 in
    let s5 = sum_front us 117 (115 ∷ []) 1 (omega arith) refl refl [] refl 0 refl in
    let n5 = starts us 117 (115 ∷ []) 1 (omega arith) refl refl [] refl in
    let s4 = sum_front ms 109 (115 ∷ []) 1000 (omega arith) refl refl t5 n5 (us * 1 + 0) s5 in
    let n4 = starts ms 109 (115 ∷ []) 1000 (omega arith) refl refl t5 n5 in
    let s3 = sum_front s 115 [] 1000000 (omega arith) refl refl t4 n4 (ms * 1000 + (us * 1 + 0)) s4 in
    let n3 = starts s 115 [] 1000000 (omega arith) refl refl t4 n4 in
    let s2 = sum_front m 109 [] 60000000 (omega arith) refl refl t3 n3 (s * 1000000 + (ms * 1000 + (us * 1 + 0))) s3 in
    let n2 = starts m 109 [] 60000000 (omega arith) refl refl t3 n3 in
    let s1 = sum_front h 104 [] 3600000000 (omega arith) refl refl t2 n2 (m * 60000000 + (s * 1000000 + (ms * 1000 + (us * 1 + 0)))) s2 in
    let total : h * 3600000000 + (m * 60000000 + (s * 1000000 + (ms * 1000 + (us * 1 + 0)))) ≡ n = omega arith in
    ap (λ x. sum_of (amounts (amount_text h (codes "h") ++ (amount_text m (codes "m") ++ (amount_text s (codes "s") ++ (amount_text ms (codes "ms") ++ x)))))) (sym (append-nil (amount_text us (codes "us"))))
    ∙ s1 ∙ ap (λ k. Some (k * 10 ^ 39)) total

pub durations : DurationsReadBack
durations n small = ⊎_elim zero_micros some (cases_Bool (eqb n 0))
  where
    zero_micros : eqb n 0 ≡ true → duration_of (duration_text n) ≡ Some n
    zero_micros t = ap (λ c. duration_of (cond c (codes "0s") (amounts_text n))) t ∙ ap Some (sym (eqb-true n 0 t))

    some : eqb n 0 ≡ false → duration_of (duration_text n) ≡ Some n
    some t =
        let positive : 0 < n = omega (arith, eqb-false n 0 t) in
        ap (λ c. duration_of (cond c (codes "0s") (amounts_text n))) t ∙ read_sum (amounts_text n) n small positive (whole_sum n small)
