-- The tree that steps lead to.
use Rattle.std.specs.Prelude.{ℕ, List, [], ◌∷◌, Option, None, Some, slice_get}
use Rattle.std.specs.Option.{option_and_then}
use Rattle.tree_base.specs.Entries.{value_at}
use Rattle.tree_base.specs.declared.tree.Tree.{Tree, out-Tree, fold-Tree}
use Rattle.tree_base.specs.declared.tree.Tree.TheOpen.{Tree-F}
use Rattle.tree_base.specs.declared.tree.Step.{Step}
use Rattle.tree_base.specs.declared.tree.Step.TheVariants.{Key, Index}

-- what a mark is put on, and else the tree itself
abbrev marked : Tree-F Tree → Tree → Tree
marked (Tree-F.Override inner) tree = inner
marked other tree = tree

-- a tree without the marks `!override` at its root, where the tree in a mark gives its own
abbrev unmarked_step : Tree-F (Tree → Tree) → Tree → Tree
unmarked_step (Tree-F.Override inner) tree = inner (marked (out-Tree tree) tree)
unmarked_step other tree = tree

-- a tree without the marks `!override` at its root
abbrev pub unmarked : Tree → Tree
unmarked tree = fold-Tree (Tree → Tree) unmarked_step tree tree

-- the tree under a key of a mapping
abbrev pub under_key : List ℕ → Tree-F Tree → Option Tree
under_key key (Tree-F.Map entries) = value_at entries key
under_key key _ = None

-- the tree at a place of a sequence, from 0
abbrev pub at_index : ℕ → Tree-F Tree → Option Tree
at_index at (Tree-F.Seq items) = slice_get items at
at_index at _ = None

-- the tree that one step leads to; a mark `!override` is no step
abbrev pub child_at : Tree → Step → Option Tree
child_at tree (Key key) = under_key key (out-Tree (unmarked tree))
child_at tree (Index at) = at_index at (out-Tree (unmarked tree))

-- the tree that a path leads to
abbrev pub tree_at : Tree → List Step → Option Tree
tree_at tree [] = Some tree
tree_at tree (step ∷ path) = option_and_then (λ t. tree_at t path) (child_at tree step)
