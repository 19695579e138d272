-- Decimals in billionths, as `cpus` has them (Compose Specification, "cpus").
use Rattle.std.specs.Prelude.{ℕ, ◌&&◌, if◌then◌else◌, nat_le, List, length, Option, None, Some}
use Rattle.std.specs.Option.{option_and_then}
use Rattle.tree_base.specs.Limits.{greatest_decimal}
use Rattle.short_forms.specs.Digits.{digit_runs, scaled}

-- the billionths of digits and at most nine digits after the point, where they are at most the greatest
abbrev pub billionths_in : List ℕ × List ℕ → Option ℕ
billionths_in (whole, fraction) = if nat_le (length fraction) 9 && nat_le (scaled 9 whole fraction) greatest_decimal then Some (scaled 9 whole fraction) else None

-- the billionths of a decimal
abbrev pub decimal_of : List ℕ → Option ℕ
decimal_of text = option_and_then billionths_in (digit_runs text)
