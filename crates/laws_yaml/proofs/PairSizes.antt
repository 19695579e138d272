-- How deep and how large the pairs of mappings are.
use Rattle.std.proofs.Common.{◌≡◌, ℕ, ◌+◌, ◌≤◌, max, Bool, true, false, cond, Option, Some, None, List, [], ◌∷◌, ◌++◌, length, map, sum_by, filter, refl, sym, ap, ◌∙◌, arith, is_none}
use Rattle.std.proofs.lemmas.List.{map-append}
use Rattle.std.proofs.lemmas.List.Sums.{sum_by-cons}
use Rattle.std.specs.Option.{option_and_then, option_map}
use Rattle.std.specs.Str.{bytes_eq}
use Rattle.tree_base.specs.Entries.{value_at, with_entry}
use Rattle.tree_base.specs.Trees.{depth, greatest, node_count, text_size}
use Rattle.tree_base.specs.declared.tree.Tree.{Tree, out-Tree, roll-Tree, roll-out-Tree}
use Rattle.tree_base.specs.declared.tree.Tree.TheOpen.{Tree-F}
use Rattle.tree_base.specs.declared.tree.Tree.TheVariants.{Map, Seq, rolls-Map, rolls-Seq}
use Rattle.yaml_nodes.specs.Mappings.{Pairs, pairs_of, all_pairs, added_maps, added}
use Rattle.laws_yaml.proofs.Sizes.{map_sizes, seq_sizes}

-- the depth of the deepest value
abbrev pub pairs_depth : Pairs → ℕ
pairs_depth pairs = greatest (map (λ pair. depth pair.1) pairs)

-- the nodes of the values
abbrev pub pairs_nodes : Pairs → ℕ
pairs_nodes pairs = sum_by (λ pair. node_count pair.1) pairs

-- the bytes of the keys and the values
abbrev pub pairs_text : Pairs → ℕ
pairs_text pairs = sum_by (λ pair. length pair.0 + text_size pair.1) pairs

-- the depth of the deepest value of mappings
abbrev pub maps_depth : List Pairs → ℕ
maps_depth maps = greatest (map pairs_depth maps)

pub greatest-append : (a b : List ℕ) → greatest (a ++ b) ≡ max (greatest a) (greatest b)
greatest-append [] b = omega arith
greatest-append (n ∷ a) b = rw (greatest-append a b) (omega arith)

pub pairs_depth-append : (a b : Pairs) → pairs_depth (a ++ b) ≡ max (pairs_depth a) (pairs_depth b)
pairs_depth-append a b = ap greatest (map-append (λ pair. depth pair.1) a b) ∙ greatest-append _ _

pub pairs_depth-filter : (test : (List ℕ × Tree) → Bool) (pairs : Pairs) → pairs_depth (filter test pairs) ≤ pairs_depth pairs
pairs_depth-filter test [] = omega arith
pairs_depth-filter test (pair ∷ pairs) = by (test pair) (pairs_depth-filter test pairs)
  where
    by : (b : Bool) → pairs_depth (filter test pairs) ≤ pairs_depth pairs → pairs_depth (cond b (pair ∷ filter test pairs) (filter test pairs)) ≤ max (depth pair.1) (pairs_depth pairs)
    by true h = omega arith
    by false h = omega arith

-- the pairs that mappings add are theirs
pub pairs_depth-added : (pairs : Pairs) (maps : List Pairs) → pairs_depth (added pairs maps) ≤ maps_depth maps
pairs_depth-added pairs [] = omega arith
pairs_depth-added pairs (map ∷ maps) =
    let more = filter (λ pair. is_none (value_at pairs pair.0)) map in
    let rest = pairs_depth-added (pairs ++ more) maps in
    let own = pairs_depth-filter (λ pair. is_none (value_at pairs pair.0)) map in
    rw (pairs_depth-append more (added (pairs ++ more) maps)) (omega arith)

-- a put adds no more than its own
pub pairs_depth_put : (pairs : Pairs) (key : List ℕ) (tree : Tree) → pairs_depth (with_entry pairs key tree) ≤ max (pairs_depth pairs) (depth tree)
pairs_depth_put [] key tree = omega arith
pairs_depth_put (pair ∷ pairs) key tree = by (bytes_eq key pair.0) (pairs_depth_put pairs key tree)
  where
    by : (b : Bool) → pairs_depth (with_entry pairs key tree) ≤ max (pairs_depth pairs) (depth tree)
        → pairs_depth (cond b ((pair.0, tree) ∷ pairs) (pair ∷ with_entry pairs key tree)) ≤ max (pairs_depth (pair ∷ pairs)) (depth tree)
    by true h = omega arith
    by false h = omega arith

sum_put : (f : (List ℕ × Tree) → ℕ) → ((old new : List ℕ) (was tree : Tree) → f (old, tree) ≤ f (old, was) + f (new, tree))
    → (pairs : Pairs) (key : List ℕ) (tree : Tree) → sum_by f (with_entry pairs key tree) ≤ sum_by f pairs + f (key, tree)
sum_put f same [] key tree = omega arith
sum_put f same (pair ∷ pairs) key tree = by (bytes_eq key pair.0) (sum_put f same pairs key tree)
  where
    by : (b : Bool) → sum_by f (with_entry pairs key tree) ≤ sum_by f pairs + f (key, tree)
        → sum_by f (cond b ((pair.0, tree) ∷ pairs) (pair ∷ with_entry pairs key tree)) ≤ sum_by f (pair ∷ pairs) + f (key, tree)
    by true h = let one = same pair.0 key pair.1 tree in simp sum_by-cons (omega arith)
    by false h = simp sum_by-cons (omega arith)

pub pairs_nodes_put : (pairs : Pairs) (key : List ℕ) (tree : Tree) → pairs_nodes (with_entry pairs key tree) ≤ pairs_nodes pairs + node_count tree
pairs_nodes_put pairs key tree = sum_put (λ pair. node_count pair.1) (λ old new was tree. omega arith) pairs key tree

pub pairs_text_put : (pairs : Pairs) (key : List ℕ) (tree : Tree) → pairs_text (with_entry pairs key tree) ≤ pairs_text pairs + (length key + text_size tree)
pairs_text_put pairs key tree = sum_put (λ pair. length pair.0 + text_size pair.1) (λ old new was tree. omega arith) pairs key tree

map_out : (tree : Tree) (pairs : Pairs) → out-Tree tree ≡ Tree-F.Map pairs → tree ≡ Map pairs
map_out tree pairs is = sym (roll-out-Tree tree) ∙ ap roll-Tree is ∙ rolls-Map pairs

seq_out : (tree : Tree) (trees : List Tree) → out-Tree tree ≡ Tree-F.Seq trees → tree ≡ Seq trees
seq_out tree trees is = sym (roll-out-Tree tree) ∙ ap roll-Tree is ∙ rolls-Seq trees

-- a mapping's values are less deep than it
map_shallow : (levels : ℕ) (tree : Tree) (pairs : Pairs) → out-Tree tree ≡ Tree-F.Map pairs → depth tree ≤ levels → pairs_depth pairs ≤ levels
map_shallow levels tree pairs is h = let sizes = map_sizes pairs in let same = ap depth (map_out tree pairs is) in omega arith

-- mappings of values of at most so many levels, where there are any
abbrev pub AreShallow : ℕ → Option (List Pairs) → Type 0
AreShallow levels None = Unit {0}
AreShallow levels (Some maps) = maps_depth maps ≤ levels

all_shallow : (levels : ℕ) (trees : List Tree) → greatest (map depth trees) ≤ levels → AreShallow levels (all_pairs trees)
all_shallow levels [] h = omega arith
all_shallow levels (tree ∷ trees) h = by (out-Tree tree) refl (all_pairs trees) (all_shallow levels trees (omega arith))
  where
    by : (layer : Tree-F Tree) → out-Tree tree ≡ layer → (more : Option (List Pairs)) → AreShallow levels more
        → AreShallow levels (option_and_then (λ pairs. option_map (λ more. pairs ∷ more) more) (pairs_of layer))
    by (Tree-F.Map pairs) is None k = tt
    by (Tree-F.Map pairs) is (Some maps) k = let own = map_shallow levels tree pairs is (omega arith) in omega arith
    by _ is more k = tt

-- what a merge key adds is less deep than its value
pub added_shallow : (levels : ℕ) (tree : Tree) → depth tree ≤ levels → AreShallow levels (added_maps (out-Tree tree))
added_shallow levels tree h = by (out-Tree tree) refl
  where
    by : (layer : Tree-F Tree) → out-Tree tree ≡ layer → AreShallow levels (added_maps layer)
    by (Tree-F.Map pairs) is = let own = map_shallow levels tree pairs is h in omega arith
    by (Tree-F.Seq trees) is = let sizes = seq_sizes trees in let same = ap depth (seq_out tree trees is) in all_shallow levels trees (omega arith)
    by _ is = tt
