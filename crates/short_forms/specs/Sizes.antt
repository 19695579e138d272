-- Sizes in bytes (Compose Specification, "Specifying byte values").
use Rattle.std.specs.Prelude.{ℕ, ◌*◌, ◌^◌, ◌&&◌, if◌then◌else◌, nat_le, List, [], ◌∷◌, map, take_while, drop, length, codes, Option, None, Some}
use Rattle.std.specs.Char.{is_ascii_digit, to_ascii_lowercase}
use Rattle.std.specs.Map.{lookup}
use Rattle.std.specs.Option.{option_and_then}
use Rattle.std.specs.Str.{bytes_eq}
use Rattle.std.specs.Str.Parse.{digits_value}
use Rattle.tree_base.specs.Limits.{greatest_number}
use Rattle.short_forms.specs.Digits.{is_number}

-- the units in lower case, each with its bytes
abbrev pub units : List (List ℕ × ℕ)
units =
    (codes "", 1) ∷ (codes "b", 1) ∷ (codes "k", 2 ^ 10) ∷ (codes "kb", 2 ^ 10) ∷ (codes "m", 2 ^ 20) ∷ (codes "mb", 2 ^ 20) ∷ (codes "g", 2 ^ 30) ∷ (codes "gb", 2 ^ 30) ∷ []

-- the bytes of a unit in either case, where it is one
abbrev pub unit_bytes : List ℕ → Option ℕ
unit_bytes unit = lookup (bytes_eq (map to_ascii_lowercase unit)) units

-- a number of units, where that is at most the greatest size
abbrev pub size_in : List ℕ → ℕ → Option ℕ
size_in digits unit = if is_number digits && nat_le (digits_value 10 digits * unit) greatest_number then Some (digits_value 10 digits * unit) else None

-- the bytes of a size: digits, and a unit
abbrev pub size_of : List ℕ → Option ℕ
size_of text = let digits = take_while is_ascii_digit text in option_and_then (size_in digits) (unit_bytes (drop (length digits) text))
