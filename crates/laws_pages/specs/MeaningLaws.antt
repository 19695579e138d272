-- Laws of what trees mean.
use Rattle.std.specs.Prelude.{◌≡◌, ℕ, List}
use Rattle.tree_base.specs.declared.Tree.{Tree}
use Rattle.attribute_scalars.specs.Lists.{ordered}
use Rattle.project_meaning.specs.Meaning.{project_of}

-- what a tree means doesn't hang on the order of its keys: two trees that are the same once their
-- keys are in byte order mean the same project, or are refused alike
abbrev pub OrderDoesNotMatter : Type 0
OrderDoesNotMatter =
    (name : List ℕ) (tree other : Tree)
    → ordered tree ≡ ordered other → project_of name tree ≡ project_of name other
