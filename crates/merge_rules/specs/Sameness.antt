-- When two trees are the same, decided from their roots down.
use Rattle.std.specs.Prelude.{ℕ, List, [], ◌∷◌, Bool, true, false, ◌&&◌}
use Rattle.std.specs.Str.{bytes_eq}
use Rattle.tree_base.specs.declared.Tree.{Tree, fold-Tree, out-Tree}
use Rattle.tree_base.specs.declared.Tree.TheOpen.{Tree-F}

-- as many items, and each the same as its partner
abbrev pub same_items : List (Tree → Bool) → List Tree → Bool
same_items [] [] = true
same_items [] (other ∷ others) = false
same_items (is ∷ more) [] = false
same_items (is ∷ more) (other ∷ others) = is other && same_items more others

-- as many entries, and each with the same key and the same value as its partner
abbrev pub same_entries : List (List ℕ × (Tree → Bool)) → List (List ℕ × Tree) → Bool
same_entries [] [] = true
same_entries [] (other ∷ others) = false
same_entries (entry ∷ more) [] = false
same_entries (entry ∷ more) (other ∷ others) = (bytes_eq entry.0 other.0 && entry.1 other.1) && same_entries more others

-- whether a tree is the same as another one, by what says so of its parts
abbrev pub same_step : Tree-F (Tree → Bool) → Tree-F Tree → Bool
same_step Tree-F.Null Tree-F.Null = true
same_step (Tree-F.Scalar text) (Tree-F.Scalar other) = bytes_eq text other
same_step (Tree-F.Map entries) (Tree-F.Map others) = same_entries entries others
same_step (Tree-F.Seq items) (Tree-F.Seq others) = same_items items others
same_step Tree-F.Reset Tree-F.Reset = true
same_step (Tree-F.Override is) (Tree-F.Override other) = is other
same_step parts other = false

-- whether two trees are the same; entries of mappings are compared in their order
abbrev pub same : Tree → Tree → Bool
same = fold-Tree (Tree → Bool) (λ parts other. same_step parts (out-Tree other))
