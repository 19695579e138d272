-- Decimal digits as numbers.
use Rattle.std.specs.Prelude.{ℕ, List, [], ◌∷◌, if◌then◌else◌, ◌==◌}

-- digits without the zeros in front
abbrev pub stripped : List ℕ → List ℕ
stripped [] = []
stripped (d ∷ ds) = if d == 48 then stripped ds else d ∷ ds
