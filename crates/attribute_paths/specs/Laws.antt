-- Laws of tables, above their definitions.
use Rattle.std.specs.Prelude.{◌≡◌, ℕ, false, List, [], ◌∷◌, map}
use Rattle.std.specs.Str.{bytes_eq}
use Rattle.attribute_paths.specs.Patterns.{Pattern, below_key, named}

-- keys, and the line behind each
abbrev pub Named : Type 0 → Type 0
Named W = List (List ℕ × (Pattern × W))

-- the lines of such
abbrev pub lines_of : {W : Type 0} → Named W → List (Pattern × W)
lines_of {W} lines = map (λ (line : List ℕ × (Pattern × W)). (named line.0 ∷ line.1.0, line.1.1)) lines

-- none of some keys is another one
abbrev pub AllApart : {W : Type 0} → List ℕ → Named W → Type 0
AllApart key [] = Unit {0}
AllApart key (line ∷ lines) = (bytes_eq line.0 key ≡ false) × AllApart key lines

-- lines that begin with other keys say nothing under a key; what a line says is a text here, as in every table
abbrev pub OtherKeysHoldNothing : Type 0
OtherKeysHoldNothing = (key : List ℕ) (lines : Named (List ℕ)) → AllApart key lines → below_key key (lines_of lines) ≡ []
