-- What is said of a variable that is unset.
use Rattle.std.specs.Prelude.{ℕ, List, ◌++◌, codes}

-- what is said of a variable that a Compose file takes, that is unset, and for which nothing stands in
abbrev pub unset_note : List ℕ → List ℕ
unset_note name =
    codes "the variable " ++ name ++ codes " is unset and has no default: it counts as empty"
