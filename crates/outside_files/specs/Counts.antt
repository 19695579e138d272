-- Counts that never fall, and stand still at the greatest number of 64 bits.
use Rattle.std.specs.Prelude.{ℕ, ◌+◌, ◌<◌, ◌≤◌, ◌⊎◌, ◌≡◌, min}

-- a count rose in a call; it counts as risen too where it stood at its greatest number
abbrev pub Rose : ℕ → ℕ → Type 0
Rose old new = (old < new) ⊎ (18446744073709551615 ≤ old)

-- a count after one more
abbrev pub one_more : ℕ → ℕ
one_more count = min (count + 1) 18446744073709551615
