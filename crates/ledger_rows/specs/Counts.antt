-- Counts over lists.
use Rattle.std.specs.Prelude.{ℕ, ◌+◌, Bool, if◌then◌else◌, ◌==◌, List, [], ◌∷◌}
use Rattle.std.specs.List.{list_any}

-- how many pass a test
abbrev pub counted : {X : Type 0} → (X → Bool) → List X → ℕ
counted p [] = 0
counted p (x ∷ xs) = if p x then counted p xs + 1 else counted p xs

-- the sum of a number for each
abbrev pub summed : (ℕ → ℕ) → List ℕ → ℕ
summed f [] = 0
summed f (x ∷ xs) = f x + summed f xs

-- whether a number is among these
abbrev pub is_listed : List ℕ → ℕ → Bool
is_listed xs a = list_any (λ b. b == a) xs
