-- Laws about the trees that are read.
use Rattle.std.specs.Prelude.{◌≡◌, ◌≤◌, ◌<◌, ◌≢◌, ℕ, ◌+◌, List, [], ◌∷◌, ◌++◌, Bool, true, false, Ok, All, length, map, sum_by, nat_le, ◌==◌, ◌&&◌, ◌||◌, not, if◌then◌else◌}
use Rattle.std.specs.List.{IsDistinct}
use Rattle.std.specs.Str.{bytes_eq, encode_utf8_all}
use Rattle.tree_base.specs.Limits.{most_levels, most_nodes, most_text}
use Rattle.tree_base.specs.Trees.{depth, node_count, text_size}
use Rattle.tree_base.specs.declared.tree.Tree.{Tree}
use Rattle.tree_base.specs.declared.tree.Tree.TheVariants.{Map, Scalar, Seq}
use Rattle.yaml_lines.specs.Block.{lines_of_rows}
use Rattle.yaml_lines.specs.Rows.{row_of}
use Rattle.yaml_lines.specs.declared.lines.Lines.{Lines}
use Rattle.yaml_nodes.specs.Scalars.{is_null_word}
use Rattle.yaml_tree.specs.Reading.{reading}

-- a tree within the limits: at most 64 levels, 200,000 nodes, and 16,777,216 bytes of keys and scalars
pub record IsWithinLimits (tree : Tree) : Type 0 where
  pub levels : depth tree ≤ most_levels
  pub nodes : node_count tree ≤ most_nodes
  pub text : text_size tree ≤ most_text

-- every tree that is read is within the limits, whatever aliases and merge keys copy
abbrev pub TreesAreWithinLimits : Type 0
TreesAreWithinLimits = (lines : Lines) (tree : Tree) → reading lines ≡ Ok tree → IsWithinLimits tree

-- a letter, a digit or `_`
abbrev pub is_word_char : ℕ → Bool
is_word_char c = (nat_le 48 c && nat_le c 57) || ((nat_le 65 c && nat_le c 90) || ((c == 95) || (nat_le 97 c && nat_le c 122)))

-- letters, digits and `_` alone
abbrev pub are_word_chars : List ℕ → Bool
are_word_chars [] = true
are_word_chars (c ∷ cs) = is_word_char c && are_word_chars cs

-- a word: one letter, digit or `_`, or more, and no word for null
pub record IsWord (cs : List ℕ) : Type 0 where
  pub some : cs ≢ []
  pub chars : are_word_chars cs ≡ true
  pub spells : is_null_word (encode_utf8_all cs) ≡ false

-- the characters of lines
abbrev pub chars_of : Lines → List (List ℕ)
chars_of lines = lines_of_rows (map row_of lines.lines)

-- the scalar of a word
abbrev pub scalar_of : List ℕ → Tree
scalar_of cs = Scalar (encode_utf8_all cs)

-- the bytes of words
abbrev pub bytes_of : List (List ℕ) → ℕ
bytes_of words = sum_by (λ cs. length (encode_utf8_all cs)) words

-- a line of a sequence: a dash, a space and a word
abbrev pub item_line : List ℕ → List ℕ
item_line word = 45 ∷ 32 ∷ word

-- lines that are a dash, a space and a word each spell the sequence of the words
abbrev pub SequencesReadBack : Type 0
SequencesReadBack = (lines : Lines) (words : List (List ℕ)) → words ≢ [] → All IsWord words → length words < most_nodes → bytes_of words ≤ most_text
    → chars_of lines ≡ map item_line words → reading lines ≡ Ok (Seq (map scalar_of words))

-- a line of a mapping: a word, a colon, a space and a word
abbrev pub entry_line : List ℕ × List ℕ → List ℕ
entry_line (key, value) = key ++ 58 ∷ 32 ∷ value

-- lines that are a word, a colon, a space and a word each, with different keys, spell the mapping of the pairs
abbrev pub MappingsReadBack : Type 0
MappingsReadBack = (lines : Lines) (pairs : List (List ℕ × List ℕ)) → pairs ≢ [] → All (λ pair. IsWord pair.0 × IsWord pair.1) pairs
    → IsDistinct bytes_eq (map (λ pair. encode_utf8_all pair.0) pairs) → length pairs < most_nodes → bytes_of (map (λ pair. pair.0) pairs) + bytes_of (map (λ pair. pair.1) pairs) ≤ most_text
    → chars_of lines ≡ map entry_line pairs → reading lines ≡ Ok (Map (map (λ pair. (encode_utf8_all pair.0, scalar_of pair.1)) pairs))
