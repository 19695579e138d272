-- The line of a hint, and what it leaves in a sink.
use Rattle.std.specs.Prelude.{◌≡◌, ◌⊎◌, ℕ, List, [], ◌∷◌, ◌++◌, Option, codes}
use Rattle.outside_files.specs.Writing.{Says}

-- the line of a hint
abbrev pub hint_line : List ℕ → List ℕ
hint_line hint = codes "compose: hint: " ++ hint ++ 10 ∷ []

-- the line of a hint was said, or nothing
abbrev pub SaysHint : List ℕ → Option (List ℕ) → Option (List ℕ) → ℕ → ℕ → Type 0
SaysHint hint old new faults_old faults_new =
    Says (hint_line hint) old new faults_old faults_new ⊎ (new ≡ old)
