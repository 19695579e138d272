-- How large a tree is, and how deep.
use Rattle.std.specs.Prelude.{ℕ, ◌+◌, List, [], ◌∷◌, length, map, sum, max}
use Rattle.std.specs.Map.{keys_of, values_of}
use Rattle.tree_base.specs.declared.tree.Tree.{Tree, fold-Tree}
use Rattle.tree_base.specs.declared.tree.Tree.TheOpen.{Tree-F}

-- the greatest of some numbers, and 0 where there are none
abbrev pub greatest : List ℕ → ℕ
greatest [] = 0
greatest (n ∷ more) = max n (greatest more)

-- the nodes of a tree, where its parts are given by theirs
abbrev pub node_step : Tree-F ℕ → ℕ
node_step Tree-F.Null = 1
node_step (Tree-F.Scalar text) = 1
node_step (Tree-F.Map entries) = 1 + sum (values_of entries)
node_step (Tree-F.Seq items) = 1 + sum items
node_step Tree-F.Reset = 0
node_step (Tree-F.Override inner) = inner

-- how many nodes a tree has: null, scalars, mappings and sequences are nodes, keys and marks aren't
abbrev pub node_count : Tree → ℕ
node_count = fold-Tree ℕ node_step

-- the depth of a tree, where its parts are given by theirs
abbrev pub depth_step : Tree-F ℕ → ℕ
depth_step Tree-F.Null = 1
depth_step (Tree-F.Scalar text) = 1
depth_step (Tree-F.Map entries) = 1 + greatest (values_of entries)
depth_step (Tree-F.Seq items) = 1 + greatest items
depth_step Tree-F.Reset = 0
depth_step (Tree-F.Override inner) = inner

-- how many nodes stand above one another in a tree: the root alone is 1, and a mark adds none
abbrev pub depth : Tree → ℕ
depth = fold-Tree ℕ depth_step

-- the bytes of a tree, where its parts are given by theirs
abbrev pub text_step : Tree-F ℕ → ℕ
text_step Tree-F.Null = 0
text_step (Tree-F.Scalar text) = length text
text_step (Tree-F.Map entries) = sum (map length (keys_of entries)) + sum (values_of entries)
text_step (Tree-F.Seq items) = sum items
text_step Tree-F.Reset = 0
text_step (Tree-F.Override inner) = inner

-- how many bytes the keys and the scalars of a tree have together
abbrev pub text_size : Tree → ℕ
text_size = fold-Tree ℕ text_step
