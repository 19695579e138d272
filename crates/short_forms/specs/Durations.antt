-- Durations in microseconds (Compose Specification, "Specifying durations").
use Rattle.std.specs.Prelude.{ℕ, ◌+◌, ◌*◌, ◌/◌, ◌%◌, ◌^◌, Bool, not, ◌==◌, ◌||◌, ◌&&◌, if◌then◌else◌, nat_le, List, [], ◌∷◌, take_while, take, drop, length, slice_index, codes, Option, None, Some}
use Rattle.std.specs.Char.{is_ascii_digit}
use Rattle.std.specs.List.{list_all, onto_first}
use Rattle.std.specs.Map.{lookup}
use Rattle.std.specs.Option.{option_and_then, option_map}
use Rattle.std.specs.Str.{bytes_eq}
use Rattle.tree_base.specs.Limits.{greatest_duration}
use Rattle.short_forms.specs.Digits.{digit_runs, scaled}

-- the units, each with its microseconds
abbrev pub units : List (List ℕ × ℕ)
units = (codes "h", 3600 * 10 ^ 6) ∷ (codes "m", 60 * 10 ^ 6) ∷ (codes "s", 10 ^ 6) ∷ (codes "ms", 10 ^ 3) ∷ (codes "us", 1) ∷ []

-- the microseconds of a unit, where it is one
abbrev pub unit_micros : List ℕ → Option ℕ
unit_micros unit = lookup (bytes_eq unit) units

-- how many digits a fraction may have, zeros at its end aside
abbrev pub places : ℕ
places = 39

-- a digit or a point
abbrev pub is_of_number : ℕ → Bool
is_of_number b = is_ascii_digit b || (b == 46)

-- the amounts of a duration: one ends where a byte that isn't of a number stands before one that is
abbrev pub amounts : List ℕ → List (List ℕ)
amounts [] = []
amounts (b ∷ bs) = if not (is_of_number b) && is_of_number (slice_index bs 0) then (b ∷ []) ∷ amounts bs else onto_first b (amounts bs)

-- digits before and after a point, in parts of which 10 ^ 39 make one
abbrev pub parts_in : List ℕ × List ℕ → Option ℕ
parts_in (whole, fraction) = if list_all (λ b. b == 48) (drop places fraction) then Some (scaled places whole (take places fraction)) else None

-- a number and a unit, in parts of a microsecond
abbrev pub amount_of : List ℕ → Option ℕ
amount_of text =
    let number = take_while is_of_number text in
    option_and_then (λ parts. option_map (λ micros. parts * micros) (unit_micros (drop (length number) text))) (option_and_then parts_in (digit_runs number))

-- the sum of all amounts, where each is one
abbrev pub sum_of : List (List ℕ) → Option ℕ
sum_of [] = Some 0
sum_of (text ∷ texts) = option_and_then (λ first. option_map (λ rest. first + rest) (sum_of texts)) (amount_of text)

-- whole microseconds, where they are at most the greatest duration
abbrev pub whole_micros : ℕ → Option ℕ
whole_micros parts = if (parts % 10 ^ places == 0) && nat_le (parts / 10 ^ places) greatest_duration then Some (parts / 10 ^ places) else None

-- the microseconds of a duration: `0`, or the sum of one amount or more
abbrev pub duration_of : List ℕ → Option ℕ
duration_of text = if bytes_eq text (codes "0") then Some 0 else (if length text == 0 then None else option_and_then whole_micros (sum_of (amounts text)))
