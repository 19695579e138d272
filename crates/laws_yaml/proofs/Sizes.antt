-- How deep and how large a tree is, by what it is made of.
use Rattle.std.proofs.Common.{◌≡◌, ℕ, ◌+◌, List, [], ◌∷◌, length, map, sum, sum_by, refl, ap, ◌∙◌, rules, arith}
use Rattle.std.proofs.lemmas.List.Sums.{sum-map, sum_by-cons}
use Rattle.std.specs.Map.{keys_of, values_of}
use Rattle.tree_base.specs.Trees.{depth, greatest, node_count, text_size}
use Rattle.tree_base.specs.declared.tree.Tree.{Tree, the_lemmas}
use Rattle.tree_base.specs.declared.tree.Tree.TheVariants.{Null, Scalar, Map, Seq, Reset, Override}

-- the sizes of a tree
pub record IsOfSizes (tree : Tree) (deep many long : ℕ) : Type 0 where
  pub levels : depth tree ≡ deep
  pub nodes : node_count tree ≡ many
  pub text : text_size tree ≡ long

pub null_sizes : IsOfSizes Null 1 1 0
null_sizes = record { levels = search (rules, the_lemmas); nodes = search (rules, the_lemmas); text = search (rules, the_lemmas) }

pub scalar_sizes : (text : List ℕ) → IsOfSizes (Scalar text) 1 1 (length text)
scalar_sizes text = record { levels = search (rules, the_lemmas); nodes = search (rules, the_lemmas); text = search (rules, the_lemmas) }

pub reset_sizes : IsOfSizes Reset 0 0 0
reset_sizes = record { levels = search (rules, the_lemmas); nodes = search (rules, the_lemmas); text = search (rules, the_lemmas) }

pub override_sizes : (tree : Tree) → IsOfSizes (Override tree) (depth tree) (node_count tree) (text_size tree)
override_sizes tree = record { levels = search (rules, the_lemmas); nodes = search (rules, the_lemmas); text = search (rules, the_lemmas) }

seq_sizes_at : (trees : List Tree) → IsOfSizes (Seq trees) (1 + greatest (map depth trees)) (1 + sum (map node_count trees)) (sum (map text_size trees))
seq_sizes_at trees = record { levels = search (rules, the_lemmas); nodes = search (rules, the_lemmas); text = search (rules, the_lemmas) }

pub seq_sizes : (trees : List Tree) → IsOfSizes (Seq trees) (1 + greatest (map depth trees)) (1 + sum_by node_count trees) (sum_by text_size trees)
seq_sizes trees =
    let at = seq_sizes_at trees in
    record { levels = at.levels; nodes = at.nodes ∙ ap (λ n. 1 + n) (sum-map node_count trees); text = at.text ∙ sum-map text_size trees }

-- pairs of a key and a tree
abbrev Pairs : Type 0
Pairs = List (List ℕ × Tree)

-- a function of each value, over the same keys
abbrev mapped : (Tree → ℕ) → Pairs → List (List ℕ × ℕ)
mapped f pairs = map (λ (pair : List ℕ × Tree). (pair.0, f pair.1)) pairs

values_of_mapped : (f : Tree → ℕ) (pairs : Pairs) → values_of (mapped f pairs) ≡ map (λ pair. f pair.1) pairs
values_of_mapped f [] = refl
values_of_mapped f (pair ∷ pairs) = ap (λ l. f pair.1 ∷ l) (values_of_mapped f pairs)

lengths_of_mapped : (f : Tree → ℕ) (pairs : Pairs) → map length (keys_of (mapped f pairs)) ≡ map (λ pair. length pair.0) pairs
lengths_of_mapped f [] = refl
lengths_of_mapped f (pair ∷ pairs) = ap (λ l. length pair.0 ∷ l) (lengths_of_mapped f pairs)

map_levels : (pairs : Pairs) → depth (Map pairs) ≡ 1 + greatest (values_of (mapped depth pairs))
map_levels pairs = search (rules, the_lemmas)

map_nodes : (pairs : Pairs) → node_count (Map pairs) ≡ 1 + sum (values_of (mapped node_count pairs))
map_nodes pairs = search (rules, the_lemmas)

map_text : (pairs : Pairs) → text_size (Map pairs) ≡ sum (map length (keys_of (mapped text_size pairs))) + sum (values_of (mapped text_size pairs))
map_text pairs = search (rules, the_lemmas)

-- the keys and the values of pairs, each for itself and pair by pair
both_sums : (pairs : Pairs) → sum_by (λ pair. length pair.0) pairs + sum_by (λ pair. text_size pair.1) pairs ≡ sum_by (λ pair. length pair.0 + text_size pair.1) pairs
both_sums [] = refl
both_sums (pair ∷ pairs) = simp sum_by-cons (omega (arith, both_sums pairs))

pub map_sizes : (pairs : List (List ℕ × Tree)) → IsOfSizes (Map pairs) (1 + greatest (map (λ pair. depth pair.1) pairs)) (1 + sum_by (λ pair. node_count pair.1) pairs) (sum_by (λ pair. length pair.0 + text_size pair.1) pairs)
map_sizes pairs = record {
  levels = map_levels pairs ∙ ap (λ l. 1 + greatest l) (values_of_mapped depth pairs);
  nodes = map_nodes pairs ∙ ap (λ l. 1 + sum l) (values_of_mapped node_count pairs) ∙ ap (λ n. 1 + n) (sum-map (λ pair. node_count pair.1) pairs);
  text = (let keys = ap sum (lengths_of_mapped text_size pairs) ∙ sum-map (λ pair. length pair.0) pairs in
      let values = ap sum (values_of_mapped text_size pairs) ∙ sum-map (λ pair. text_size pair.1) pairs in
      let both = both_sums pairs in
      map_text pairs ∙ ap (λ n. n + sum (values_of (mapped text_size pairs))) keys ∙ ap (λ n. sum_by (λ pair. length pair.0) pairs + n) values ∙ both);
}
