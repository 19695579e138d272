-- What a node means is no larger than the tree that its page spells.
use Rattle.std.proofs.Common.{◌≡◌, ◌∙◌, ◌≤◌, ◌+◌, ℕ, List, [], ◌∷◌, length, map, sum_by, refl, sym, ap, arith}
use Rattle.std.proofs.lemmas.List.Sums.{sum_by-cons}
use Rattle.laws_pages.proofs.ProjectTexts.{is_longer}
use Rattle.laws_pages.proofs.Values.{tree_entry, tree_map, tree_null, tree_seq, tree_text, tree_word, value_entry, value_map, value_null, value_seq, value_text, value_word}
use Rattle.project_print.specs.Values.{value_of}
use Rattle.project_print.specs.Scalars.{doubled}
use Rattle.project_print.specs.declared.node.Node.{Node}
use Rattle.project_print.specs.declared.node.Node.TheVariants.{Map, Null, Seq, Text, Word}
use Rattle.tree_base.specs.Trees.{node_count, text_size}
use Rattle.tree_base.specs.declared.tree.Tree.{Tree}
use Rattle.tree_base.specs.declared.tree.Tree.TheVariants as trees
use Rattle.laws_yaml.proofs.Sizes.{map_sizes, scalar_sizes, seq_sizes}
use Rattle.laws_yaml.proofs.Induction.{OfAll, of_every}
use Rattle.laws_yaml.specs.Printed.{tree_of}

-- a tree with as many nodes as another one, and no more text
pub record IsNoLarger (tree other : Tree) : Type 0 where
  pub nodes : node_count tree ≡ node_count other
  pub text : text_size tree ≤ text_size other

-- what a node means, beside the tree of its page
abbrev Fits : Node → Type 0
Fits node = IsNoLarger (value_of node) (tree_of node)

again : (meant value printed tree : Tree) → value ≡ meant → tree ≡ printed → IsNoLarger meant printed → IsNoLarger value tree
again meant value printed tree p q is = record {
  nodes = ap node_count p ∙ is.nodes ∙ ap node_count (sym q);
  text = (let value_text = ap text_size p in
      let tree_text = ap text_size q in
      let within = is.text in
      omega (arith, value_text, tree_text, within));
}

same : (tree : Tree) → IsNoLarger tree tree
same tree = record { nodes = refl; text = omega arith }

null_fits : Fits Null
null_fits = again trees.Null (value_of Null) trees.Null (tree_of Null) value_null tree_null (same trees.Null)

word_fits : (text : List ℕ) → Fits (Word text)
word_fits text = again (trees.Scalar text) (value_of (Word text)) (trees.Scalar text) (tree_of (Word text)) (value_word text) (tree_word text) (same (trees.Scalar text))

text_fits : (text : List ℕ) → Fits (Text text)
text_fits text =
    let one = scalar_sizes text in
    let two = scalar_sizes (doubled text) in
    let longer = is_longer text in
    let short = one.text in
    let long = two.text in
    again (trees.Scalar text) (value_of (Text text)) (trees.Scalar (doubled text)) (tree_of (Text text)) (value_text text) (tree_text text)
    (record { nodes = one.nodes ∙ sym two.nodes; text = omega (arith, longer, short, long) })

-- entries, key by key
abbrev nodes_of : List (List ℕ × Tree) → ℕ
nodes_of pairs = sum_by (λ (pair : List ℕ × Tree). node_count pair.1) pairs

abbrev text_of : List (List ℕ × Tree) → ℕ
text_of pairs = sum_by (λ (pair : List ℕ × Tree). length pair.0 + text_size pair.1) pairs

nodes_same : (es : List (List ℕ × Node)) → OfAll (λ (e : List ℕ × Node). Fits e.1) es → nodes_of (map value_entry es) ≡ nodes_of (map tree_entry es)
nodes_same [] fits = refl
nodes_same (e ∷ es) fits =
    let f : List ℕ × Tree → ℕ = λ pair. node_count pair.1 in
    let value = sum_by-cons f (value_entry e) (map value_entry es) in
    let tree = sum_by-cons f (tree_entry e) (map tree_entry es) in
    let first = fits.0.nodes in
    let rest = nodes_same es fits.1 in
    omega (arith, value, tree, first, rest)

text_fewer : (es : List (List ℕ × Node)) → OfAll (λ (e : List ℕ × Node). Fits e.1) es → text_of (map value_entry es) ≤ text_of (map tree_entry es)
text_fewer [] fits = omega arith
text_fewer (e ∷ es) fits =
    let f : List ℕ × Tree → ℕ = λ pair. length pair.0 + text_size pair.1 in
    let value = sum_by-cons f (value_entry e) (map value_entry es) in
    let tree = sum_by-cons f (tree_entry e) (map tree_entry es) in
    let first = fits.0.text in
    let rest = text_fewer es fits.1 in
    omega (arith, value, tree, first, rest)

map_fits : (es : List (List ℕ × Node)) → OfAll (λ (e : List ℕ × Node). Fits e.1) es → Fits (Map es)
map_fits es fits =
    let values = map_sizes (map value_entry es) in
    let printed = map_sizes (map tree_entry es) in
    let value_long = values.text in
    let long = printed.text in
    let fewer = text_fewer es fits in
    again (trees.Map (map value_entry es)) (value_of (Map es)) (trees.Map (map tree_entry es)) (tree_of (Map es)) (value_map es) (tree_map es)
    (record {
      nodes = values.nodes ∙ ap (λ n. 1 + n) (nodes_same es fits) ∙ sym printed.nodes;
      text = omega (arith, value_long, long, fewer);
    })

-- items, one by one
items_same : (xs : List Node) → OfAll Fits xs → sum_by node_count (map value_of xs) ≡ sum_by node_count (map tree_of xs)
items_same [] fits = refl
items_same (x ∷ xs) fits =
    let value = sum_by-cons node_count (value_of x) (map value_of xs) in
    let tree = sum_by-cons node_count (tree_of x) (map tree_of xs) in
    let first = fits.0.nodes in
    let rest = items_same xs fits.1 in
    omega (arith, value, tree, first, rest)

items_fewer : (xs : List Node) → OfAll Fits xs → sum_by text_size (map value_of xs) ≤ sum_by text_size (map tree_of xs)
items_fewer [] fits = omega arith
items_fewer (x ∷ xs) fits =
    let value = sum_by-cons text_size (value_of x) (map value_of xs) in
    let tree = sum_by-cons text_size (tree_of x) (map tree_of xs) in
    let first = fits.0.text in
    let rest = items_fewer xs fits.1 in
    omega (arith, value, tree, first, rest)

seq_fits : (xs : List Node) → OfAll Fits xs → Fits (Seq xs)
seq_fits xs fits =
    let values = seq_sizes (map value_of xs) in
    let printed = seq_sizes (map tree_of xs) in
    let value_long = values.text in
    let long = printed.text in
    let fewer = items_fewer xs fits in
    again (trees.Seq (map value_of xs)) (value_of (Seq xs)) (trees.Seq (map tree_of xs)) (tree_of (Seq xs)) (value_seq xs) (tree_seq xs)
    (record {
      nodes = values.nodes ∙ ap (λ n. 1 + n) (items_same xs fits) ∙ sym printed.nodes;
      text = omega (arith, value_long, long, fewer);
    })

pub no_larger : (node : Node) → IsNoLarger (value_of node) (tree_of node)
no_larger = of_every Fits null_fits word_fits text_fits map_fits seq_fits
