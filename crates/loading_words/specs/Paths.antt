-- How a path in a tree is printed: its keys joined by dots, and each place in brackets.
use Rattle.std.specs.Prelude.{ℕ, List, [], ◌∷◌, ◌++◌, codes, decimal}
use Rattle.std.specs.List.{flat_map}
use Rattle.tree_base.specs.declared.Step.{Step}
use Rattle.tree_base.specs.declared.Step.TheVariants.{Index, Key}

-- a step behind another
abbrev pub step_words : Step → List ℕ
step_words (Key key) = codes "." ++ key
step_words (Index at) = codes "[" ++ (decimal at ++ codes "]")

-- a path: no dot stands before its first key
abbrev pub path_words : List Step → List ℕ
path_words [] = []
path_words (Key key ∷ steps) = key ++ flat_map step_words steps
path_words (Index at ∷ steps) = step_words (Index at) ++ flat_map step_words steps
