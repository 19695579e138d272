-- Numbers in decimal digits.
use Rattle.std.specs.Prelude.{ℕ, ◌+◌, ◌-◌, ◌*◌, ◌^◌, Bool, ◌&&◌, if◌then◌else◌, nat_lt, nat_le, List, [], length, Option, None, Some}
use Rattle.std.specs.Char.{is_ascii_digit}
use Rattle.std.specs.List.{list_all}
use Rattle.std.specs.Str.Parse.{digits_value}
use Rattle.short_forms.specs.Cuts.{cut_once}

-- one ASCII digit or more, and nothing else
abbrev pub is_number : List ℕ → Bool
is_number text = nat_lt 0 (length text) && list_all is_ascii_digit text

-- the number that digits write, where it is at most `most`
abbrev pub number_up_to : ℕ → List ℕ → Option ℕ
number_up_to most text = if is_number text && nat_le (digits_value 10 text) most then Some (digits_value 10 text) else None

-- the digits before a point and those after it, of a text that is cut at its first point
abbrev pub runs_of : List ℕ → Option (List ℕ × List ℕ) → Option (List ℕ × List ℕ)
runs_of text None = if is_number text then Some (text, []) else None
runs_of text (Some (whole, fraction)) = if is_number whole && is_number fraction then Some (whole, fraction) else None

-- the digits before the point and those after it: a number has digits, and at most one point with digits after it
abbrev pub digit_runs : List ℕ → Option (List ℕ × List ℕ)
digit_runs text = runs_of text (cut_once 46 text)

-- the digits before and after a point as a whole number, of which 10 ^ places make one
abbrev pub scaled : ℕ → List ℕ → List ℕ → ℕ
scaled places whole fraction = digits_value 10 whole * 10 ^ places + digits_value 10 fraction * 10 ^ (places - length fraction)
