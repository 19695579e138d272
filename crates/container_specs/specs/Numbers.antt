-- Numbers as the Engine takes them, of 64 bits with a sign.
use Rattle.std.specs.Prelude.{ℕ, ℤ, ◌*◌, List, Option, min, pos}
use Rattle.std.specs.Int.{div_ceil}
use Rattle.std.specs.Option.{option_map}
use Rattle.tree_base.specs.Limits.{greatest_number}
use Rattle.attribute_types.specs.Lookups.{number_at}
use Rattle.attribute_types.specs.declared.attribute.Attribute.{Attribute}

-- a number, or the greatest where it is above that
abbrev pub signed : ℕ → ℤ
signed number = pos (min number greatest_number)

-- the number under a name
abbrev pub number_of : List Attribute → List ℕ → Option ℤ
number_of attributes name = option_map signed (number_at attributes name)

-- microseconds as nanoseconds
abbrev pub nanoseconds : ℕ → ℤ
nanoseconds micros = signed (micros * 1000)

-- microseconds as whole seconds, rounded up
abbrev pub seconds : ℕ → ℤ
seconds micros = signed (div_ceil micros 1000000)
