-- The line of a note, and what it leaves in a sink.
use Rattle.std.specs.Prelude.{◌≡◌, ◌⊎◌, ℕ, List, [], ◌∷◌, ◌++◌, Option, codes}
use Rattle.outside_files.specs.Writing.{Says}

-- the line of a note
abbrev pub note_line : List ℕ → List ℕ
note_line note = codes "compose: note: " ++ note ++ 10 ∷ []

-- the line of a note was said, or nothing
abbrev pub SaysNote : List ℕ → Option (List ℕ) → Option (List ℕ) → ℕ → ℕ → Type 0
SaysNote note old new faults_old faults_new =
    Says (note_line note) old new faults_old faults_new ⊎ (new ≡ old)
