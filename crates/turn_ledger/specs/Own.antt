-- The entries of one number.
use Rattle.std.specs.Prelude.{◌≡◌, ℕ, ◌==◌, ◌⊎◌, List, [], ◌∷◌, filter}

-- the entries that stand under a number, in their order
abbrev pub own : {E : Type 0} → (E → ℕ) → ℕ → List E → List E
own by n es = filter (λ e. by e == n) es

-- each of these has the property
abbrev pub Each : {X : Type 0} → (X → Type 0) → List X → Type 0
Each P [] = Unit {0}
Each P (x ∷ xs) = P x × Each P xs

-- the number stands among these
abbrev pub HasNumber : {X : Type 0} → ℕ → List (ℕ × X) → Type 0
HasNumber n [] = ⊥
HasNumber n (j ∷ js) = (j.0 ≡ n) ⊎ HasNumber n js
