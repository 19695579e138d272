-- A line that is a dash, a space and a word, as an item.
use Rattle.std.proofs.Common.{◌≡◌, ℕ, suc, ◌+◌, ◌<◌, ◌≤◌, ◌&&◌, List, [], ◌∷◌, ◌++◌, true, false, Ok, length, arith, refl, ap, ◌∙◌}
use Rattle.std.proofs.lemmas.Bool.{and_parts}
use Rattle.std.specs.Str.{encode_utf8_all}
use Rattle.tree_base.specs.declared.tree.Tree.{Tree}
use Rattle.yaml_nodes.specs.declared.progress.Progress.{Progress}
use Rattle.yaml_nodes.specs.Progress.{◌>>=◌}
use Rattle.yaml_nodes.specs.Properties.{no_properties}
use Rattle.yaml_tree.specs.Blocks.{Reader, block_item, item_node, node}
use Rattle.yaml_tree.specs.Inline.{Owned}
use Rattle.laws_yaml.specs.BlockLaws.{IsWord, are_word_chars, is_word_char, item_line, scalar_of}
use Rattle.laws_yaml.proofs.NumberedLines.{IsOneLine, line_at, row_at}
use Rattle.laws_yaml.proofs.OneLine.{grown, head_is, node_is, value_is}
use Rattle.laws_yaml.proofs.WordLines.{no_blanks, no_block, no_flow, no_property, not_blank}

pub item_is_one : (word : List ℕ) → IsWord word → IsOneLine (item_line word)
item_is_one [] is = absurd (is.some refl)
item_is_one (c ∷ cs) is =
    let first = (and_parts (is_word_char c) (are_word_chars cs) is.chars).0 in
    record { black = refl; at = 2; head = head_is 0 2 c cs is.chars; flat = no_flow c cs first; bare = no_block c cs first }

-- a dash at the first column owns what stands behind it on its line
owner_of : ℕ × List ℕ → Owned
owner_of x = record { row = row_at item_line x; column = 0; is_key = false }

node_of_item : (read : Reader) (p : Progress) (number c : ℕ) (cs : List ℕ) → is_word_char c ≡ true
    → item_node 0 read p (line_at item_line (number, c ∷ cs)) [] ≡ read (owner_of (number, c ∷ cs)) no_properties p 2 (line_at item_line (number, c ∷ cs) ∷ [])
unfolding owner_of
node_of_item read p number c cs first = rw (not_blank c cs first true, no_blanks c cs first)

-- an item that is a word
pub item_is : (levels : ℕ) (items : List Tree) (p : Progress) (number : ℕ) (word : List ℕ) → IsWord word → p.nodes < 200000 → p.text + length (encode_utf8_all word) ≤ 16777216
    → block_item 0 (node (suc levels)) (items, p) (line_at item_line (number, word)) [] ≡ Ok (items ++ scalar_of word ∷ [], grown p 1 (length (encode_utf8_all word)))
item_is levels items p number [] is room fits = absurd (is.some refl)
item_is levels items p number (c ∷ cs) is room fits =
    let first = (and_parts (is_word_char c) (are_word_chars cs) is.chars).0 in
    let line = line_at item_line (number, c ∷ cs) in
    let owner = owner_of (number, c ∷ cs) in
    ap (λ r. r >>= λ got. Ok (items ++ got.0 ∷ [], got.1))
    (node_of_item (node (suc levels)) p number c cs first
    ∙ node_is (suc levels) levels (node levels) owner p 2 line [] refl (no_property c cs first)
    ∙ value_is (suc levels) p line 2 c cs refl is.chars is.spells (omega arith) room fits levels (node levels) owner)
