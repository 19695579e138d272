-- Numbers in a row, and the places of a list.
use Rattle.std.specs.Prelude.{ℕ, zero, suc, ◌+◌, List, [], ◌∷◌, length}

-- so many numbers, from one on
abbrev pub numbers_from : ℕ → ℕ → List ℕ
numbers_from i zero = []
numbers_from i (suc n) = i ∷ numbers_from (i + 1) n

-- the places of a list, from 0
abbrev pub places : {X : Type 0} → List X → List ℕ
places xs = numbers_from 0 (length xs)
