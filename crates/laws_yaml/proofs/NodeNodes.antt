-- What is shown of a readable node spells its tree, by induction on how deep the tree is.
use Rattle.std.proofs.Common.{◌≡◌, ◌∙◌, ℕ, zero, suc, ◌≤◌, true, List, [], ◌∷◌, codes, map, sym, subst, arith}
use Rattle.std.proofs.lemmas.Bool.{and_parts}
use Rattle.std.specs.List.{list_all}
use Rattle.project_print.specs.declared.node.Node.{Node}
use Rattle.project_print.specs.Pages.{Shown, block, shown, word}
use Rattle.project_print.specs.Scalars.{doubled, scalar}
use Rattle.tree_base.specs.Trees.{depth, greatest}
use Rattle.tree_base.specs.declared.tree.Tree.{Tree}
use Rattle.tree_base.specs.declared.tree.Tree.TheVariants as trees
use Rattle.std.specs.Str.{encode_utf8_all}
use Rattle.laws_yaml.proofs.Sizes.{map_sizes, seq_sizes}
use Rattle.laws_yaml.proofs.Entries.{entries_spell}
use Rattle.laws_yaml.proofs.Entries as entries
use Rattle.laws_yaml.proofs.Items.{items_spell}
use Rattle.laws_yaml.proofs.Items as items
use Rattle.laws_yaml.proofs.Induction.{some_level}
use Rattle.laws_yaml.proofs.Layers.{of_each, part_of_entry, part_of_item, readable_map, readable_seq, readable_word, shown_map, shown_null, shown_seq, shown_text, shown_word, spelled_entry, spelled_keys, spelled_map, spelled_null, spelled_seq, spelled_text, spelled_word}
use Rattle.laws_yaml.proofs.Spells.{Spells, word_spells}
use Rattle.laws_yaml.proofs.Values.{empty_map_value, empty_seq_value, null_value, text_value}
use Rattle.laws_yaml.proofs.Words.{word_value}
use Rattle.laws_yaml.specs.Readable.{are_distinct, is_readable, is_so, spelled_by}

-- a node spells its tree, if it is readable and the tree isn't deeper
abbrev Claim : ℕ → Node → Type 0
Claim levels n = is_readable n ≡ true → depth (spelled_by n) ≤ levels → Spells levels (shown n) (spelled_by n)

-- what is shown and what is spelled are these
as_is : (levels : ℕ) (s t : Shown) (tree other : Tree) → s ≡ t → tree ≡ other → (depth other ≤ levels → Spells levels t other) → depth tree ≤ levels → Spells levels s tree
as_is levels s t tree other e f spells deep =
    subst (λ x. Spells levels x tree) (sym e) (subst (λ x. Spells levels t x) (sym f) (spells (subst (λ x. depth x ≤ levels) f deep)))

each_item : (levels : ℕ) → ((n : Node) → Claim levels n) → (xs : List Node) → list_all is_so (map is_readable xs) ≡ true → greatest (map depth (map spelled_by xs)) ≤ levels → items.AreSpelled levels xs
each_item levels claim [] readable deep = tt
each_item levels claim (x ∷ xs) readable deep =
    let both = and_parts (is_readable x) (list_all is_so (map is_readable xs)) readable in
    (claim x both.0 (omega (arith, deep)), each_item levels claim xs both.1 (omega (arith, deep)))

each_entry : (levels : ℕ) → ((n : Node) → Claim levels n) → (es : List (List ℕ × Node)) → list_all is_so (map (λ (e : List ℕ × Node). is_readable e.1) es) ≡ true
    → greatest (map (λ (pair : List ℕ × Tree). depth pair.1) (map spelled_entry es)) ≤ levels → entries.AreSpelled levels es
each_entry levels claim [] readable deep = tt
each_entry levels claim (e ∷ es) readable deep =
    let both = and_parts (is_readable e.1) (list_all is_so (map (λ (e : List ℕ × Node). is_readable e.1) es)) readable in
    (claim e.1 both.0 (omega (arith, deep)), each_entry levels claim es both.1 (omega (arith, deep)))

seq_spells : (levels : ℕ) → ((n : Node) → Claim levels n) → (xs : List Node) → list_all is_so (map is_readable xs) ≡ true → depth (trees.Seq (map spelled_by xs)) ≤ suc levels
    → Spells (suc levels) (block (codes "[]") (map part_of_item xs)) (trees.Seq (map spelled_by xs))
seq_spells levels claim [] readable deep = word_spells levels (codes "[]") (trees.Seq []) empty_seq_value deep
seq_spells levels claim (x ∷ xs) readable deep =
    let sizes = seq_sizes (map spelled_by (x ∷ xs)) in
    items_spell levels x xs (each_item levels claim (x ∷ xs) readable (omega (arith, deep, sizes.levels))) deep

map_spells : (levels : ℕ) → ((n : Node) → Claim levels n) → (es : List (List ℕ × Node)) → are_distinct (spelled_keys es) ≡ true → list_all is_so (map (λ (e : List ℕ × Node). is_readable e.1) es) ≡ true
    → depth (trees.Map (map spelled_entry es)) ≤ suc levels → Spells (suc levels) (block (codes "{}") (map part_of_entry es)) (trees.Map (map spelled_entry es))
map_spells levels claim [] distinct readable deep = word_spells levels (codes "{}") (trees.Map []) empty_map_value deep
map_spells levels claim (e ∷ es) distinct readable deep =
    let sizes = map_sizes (map spelled_entry (e ∷ es)) in
    entries_spell levels e es (each_entry levels claim (e ∷ es) readable (omega (arith, deep, sizes.levels))) distinct deep

step : (levels : ℕ) → ((n : Node) → Claim levels n) → (node : Node) → Claim (suc levels) node
step levels claim =
    of_each (Claim (suc levels))
    (λ readable. as_is (suc levels) _ (word (codes "null")) _ trees.Null shown_null spelled_null (word_spells levels (codes "null") trees.Null null_value))
    (λ text readable.
    as_is (suc levels) _ (word text) _ (trees.Scalar (encode_utf8_all text)) (shown_word text) (spelled_word text) (word_spells levels text (trees.Scalar (encode_utf8_all text)) (word_value text (sym (readable_word text) ∙ readable))))
    (λ text readable. as_is (suc levels) _ (word (scalar (doubled text))) _ (trees.Scalar (encode_utf8_all (doubled text))) (shown_text text) (spelled_text text)
    (word_spells levels (scalar (doubled text)) (trees.Scalar (encode_utf8_all (doubled text))) (text_value (doubled text))))
    (λ es readable.
    let both = and_parts (are_distinct (spelled_keys es)) (list_all is_so (map (λ (e : List ℕ × Node). is_readable e.1) es)) (sym (readable_map es) ∙ readable) in
    as_is (suc levels) _ (block (codes "{}") (map part_of_entry es)) _ (trees.Map (map spelled_entry es)) (shown_map es) (spelled_map es) (map_spells levels claim es both.0 both.1))
    (λ xs readable. as_is (suc levels) _ (block (codes "[]") (map part_of_item xs)) _ (trees.Seq (map spelled_by xs)) (shown_seq xs) (spelled_seq xs) (seq_spells levels claim xs (sym (readable_seq xs) ∙ readable)))

-- what is shown of a readable node spells its tree
pub spells : (levels : ℕ) (node : Node) → Claim levels node
spells zero node readable deep = let some = some_level node in absurd (omega (arith, some, deep))
spells (suc levels) node readable deep = step levels (spells levels) node readable deep
