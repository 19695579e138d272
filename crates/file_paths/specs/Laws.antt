-- Laws of paths, above their definitions.
use Rattle.std.specs.Prelude.{◌≡◌, ℕ, List, Ok}
use Rattle.file_paths.specs.Paths.{Variables, homed, joined}

-- a path that is taken absolute stays where it is taken again, from any other directory
abbrev pub TakenPathsStay : Type 0
TakenPathsStay = (directory other text : List ℕ) → joined other (joined directory text) ≡ joined directory text

-- and whatever the home is
abbrev pub TakenPathsHaveNoHome : Type 0
TakenPathsHaveNoHome = (directory other text : List ℕ) (env : Variables) → homed other env (joined directory text) ≡ Ok (joined directory text)
