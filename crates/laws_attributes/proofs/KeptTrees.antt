-- A mapping that is kept, with its keys in byte order, is kept again as it is.
use Rattle.std.proofs.Common.{◌≡◌, ◌∙◌, ℕ, List, [], ◌∷◌, map, refl, ap, sym, rules}
use Rattle.tree_base.specs.ByteOrder.{by_key}
use Rattle.tree_base.specs.declared.tree.Tree.{Tree, out-Tree, roll-Tree, roll-out-Tree, the_lemmas}
use Rattle.tree_base.specs.declared.tree.Tree.TheOpen.{Tree-F}
use Rattle.tree_base.specs.declared.tree.Tree.TheVariants.{Map, Null, Override, Reset, Scalar, Seq, outs-Map, rolls-Map, rolls-Null, rolls-Scalar, rolls-Seq}
use Rattle.attribute_scalars.specs.Lists.{ordered}
use Rattle.attribute_scalars.specs.Walks.{Entries}
use Rattle.attribute_scalars.proofs.KeptKeys as kept
use Rattle.attribute_scalars.proofs.Pairs.{ordered-map}
use Rattle.attribute_paths.proofs.Trees.{OfAll, of_every}
use Rattle.laws_attributes.proofs.Order.{order_stays, sorted_in_order}
use Rattle.laws_attributes.proofs.Gifts.{key_of}

pub map_out : (tree : Tree) (entries : Entries) → out-Tree tree ≡ Tree-F.Map entries → tree ≡ Map entries
map_out tree entries is = sym (roll-out-Tree tree) ∙ ap roll-Tree is ∙ rolls-Map entries

pub seq_out : (tree : Tree) (items : List Tree) → out-Tree tree ≡ Tree-F.Seq items → tree ≡ Seq items
seq_out tree items is = sym (roll-out-Tree tree) ∙ ap roll-Tree is ∙ rolls-Seq items

pub scalar_out : (tree : Tree) (text : List ℕ) → out-Tree tree ≡ Tree-F.Scalar text → tree ≡ Scalar text
scalar_out tree text is = sym (roll-out-Tree tree) ∙ ap roll-Tree is ∙ rolls-Scalar text

pub null_out : (tree : Tree) → out-Tree tree ≡ Tree-F.Null → tree ≡ Null
null_out tree is = sym (roll-out-Tree tree) ∙ ap roll-Tree is ∙ rolls-Null

-- an entry with its tree in byte order
abbrev pub ordered_entry : List ℕ × Tree → List ℕ × Tree
ordered_entry entry = (entry.0, ordered entry.1)

-- the entries of a mapping in byte order
abbrev pub ordered_entries : Entries → Entries
ordered_entries es = by_key key_of (map ordered_entry es)

pub ordered_map : (es : Entries) → ordered (Map es) ≡ Map (ordered_entries es)
ordered_map es = ordered-map es

pub ordered_seq : (xs : List Tree) → ordered (Seq xs) ≡ Seq (map ordered xs)
ordered_seq xs = search (rules, the_lemmas)

pub ordered_null : ordered Null ≡ Null
ordered_null = search (rules, the_lemmas)

pub ordered_scalar : (text : List ℕ) → ordered (Scalar text) ≡ Scalar text
ordered_scalar text = search (rules, the_lemmas)

pub ordered_reset : ordered Reset ≡ Reset
ordered_reset = search (rules, the_lemmas)

pub ordered_override : (inner : Tree) → ordered (Override inner) ≡ Override (ordered inner)
ordered_override inner = search (rules, the_lemmas)

-- trees in byte order that stay so
abbrev Stays : Tree → Type 0
Stays tree = ordered (ordered tree) ≡ ordered tree

items_stay : (xs : List Tree) → OfAll Stays xs → map ordered (map ordered xs) ≡ map ordered xs
items_stay [] h = refl
items_stay (x ∷ xs) h = (λ i. h.0 i ∷ items_stay xs h.1 i)

entries_stay : (es : Entries) → OfAll (λ (e : List ℕ × Tree). Stays e.1) es → map ordered_entry (map ordered_entry es) ≡ map ordered_entry es
entries_stay [] h = refl
entries_stay (e ∷ es) h = (λ i. (e.0, h.0 i) ∷ entries_stay es h.1 i)

sorted_again : (es : Entries) → map ordered_entry (map ordered_entry es) ≡ map ordered_entry es → ordered_entries (ordered_entries es) ≡ ordered_entries es
sorted_again es h =
    ap (by_key key_of) (kept.map-by_key ordered_entry key_of (map ordered_entry es) ∙ ap (by_key key_of) h)
    ∙ order_stays key_of (ordered_entries es) (sorted_in_order key_of (map ordered_entry es))

-- a tree in byte order stays so
pub ordered_again : (tree : Tree) → ordered (ordered tree) ≡ ordered tree
ordered_again = of_every Stays
    (ap ordered ordered_null)
    (λ text. ap ordered (ordered_scalar text))
    (λ es h. ap ordered (ordered_map es) ∙ ordered_map (ordered_entries es) ∙ ap Map (sorted_again es (entries_stay es h)) ∙ sym (ordered_map es))
    (λ xs h. ap ordered (ordered_seq xs) ∙ ordered_seq (map ordered xs) ∙ ap Seq (items_stay xs h) ∙ sym (ordered_seq xs))
    (ap ordered ordered_reset)
    (λ inner h. ap ordered (ordered_override inner) ∙ ordered_override (ordered inner) ∙ ap Override h ∙ sym (ordered_override inner))

-- the entries of a mapping in byte order, as they are seen
pub ordered_out : (tree : Tree) (es : Entries) → out-Tree tree ≡ Tree-F.Map es → out-Tree (ordered tree) ≡ Tree-F.Map (ordered_entries es)
ordered_out tree es is = ap (λ t. out-Tree (ordered t)) (map_out tree es is) ∙ ap out-Tree (ordered_map es) ∙ outs-Map (ordered_entries es)
