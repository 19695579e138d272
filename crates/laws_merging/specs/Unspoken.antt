-- What a file doesn't speak of.
use Rattle.std.specs.Prelude.{◌≡◌, ℕ, List, [], ◌∷◌, Option, Some, None, Ok, true}
use Rattle.std.specs.Option.{option_and_then}
use Rattle.tree_base.specs.Entries.{value_at}
use Rattle.tree_base.specs.declared.Tree.{Tree, out-Tree}
use Rattle.tree_base.specs.declared.Tree.TheOpen.{Tree-F}
use Rattle.merge_tables.specs.declared.rules.Standing.TheVariants.{Value}
use Rattle.merge_tables.specs.Attributes.{JoiningRules}
use Rattle.merge_rules.specs.Laws.{no_mark, own_keys}
use Rattle.merge_rules.specs.Overlay.{laid, over_files}

-- the entries of a mapping; no other tree has any
abbrev pub entries_of : Tree-F Tree → List (List ℕ × Tree)
entries_of (Tree-F.Map entries) = entries
entries_of other = []

-- the tree at a path of keys
abbrev pub value_under : List (List ℕ) → Tree → Option Tree
value_under [] tree = Some tree
value_under (key ∷ keys) tree = option_and_then (value_under keys) (value_at (entries_of (out-Tree tree)) key)

-- what a tree without marks, laid over another one, doesn't speak of is as it was
abbrev pub UnspokenStays : Type 0
UnspokenStays = (rules : JoiningRules) (path : List (List ℕ)) (base over merged : Tree) → no_mark over ≡ true → own_keys over ≡ true
    → laid over Value rules base ≡ Ok (Some merged) → value_under path over ≡ None → value_under path merged ≡ value_under path base

-- so it is with a file over the files before it
abbrev pub UnspokenStaysInFiles : Type 0
UnspokenStaysInFiles = (path : List (List ℕ)) (base over merged : Tree) → no_mark over ≡ true → own_keys over ≡ true
    → over_files base over ≡ Ok merged → value_under path over ≡ None → value_under path merged ≡ value_under path base
