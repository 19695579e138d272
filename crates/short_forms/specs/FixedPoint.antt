-- Sums of microseconds in parts of which 10 ^ 39 make one.
use Rattle.std.specs.Prelude.{ℕ, ◌+◌, ◌*◌, ◌^◌, if◌then◌else◌, nat_lt, Option, None, Some}
use Rattle.tree_base.specs.Limits.{greatest_duration}
use Rattle.short_forms.specs.Durations.{places}
use Rattle.short_forms.specs.declared.fixed_point.FixedPoint.{FixedPoint}

-- the parts of a number
abbrev pub parts_of : FixedPoint → ℕ
parts_of number = number.whole * 10 ^ places + number.upper * 10 ^ 19 + number.lower

-- parts, where they make at most the greatest duration and a part of one microsecond
abbrev pub capped : ℕ → Option ℕ
capped parts = if nat_lt parts ((greatest_duration + 1) * 10 ^ places) then Some parts else None
