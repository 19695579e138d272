-- A word that stands on the rest of a line is read as a scalar.
use Rattle.std.proofs.Common.{◌≡◌, ℕ, suc, ◌+◌, ◌<◌, ◌≤◌, Bool, true, false, cond, List, [], ◌∷◌, Some, Ok, drop, length, arith, refl, sym, ap, ◌∙◌}
use Rattle.std.proofs.lemmas.Bool.{and_parts, cond-false, le-ltb}
use Rattle.std.proofs.lemmas.List.{drop-drop, drop_all}
use Rattle.std.specs.Str.{encode_utf8_all}
use Rattle.yaml_groups.specs.declared.line.LogicalLine.{LogicalLine}
use Rattle.yaml_groups.specs.Grouped.{begins_block, begins_flow, head_of}
use Rattle.tree_base.specs.declared.tree.Tree.{Tree}
use Rattle.tree_base.specs.declared.tree.Tree.TheVariants.{Scalar}
use Rattle.yaml_lines.specs.Blanks.{is_white}
use Rattle.yaml_lines.specs.declared.plain.Context.TheVariants.{Block}
use Rattle.yaml_lines.specs.declared.row.Row.{Row}
use Rattle.yaml_lines.specs.Plain.{plain_of}
use Rattle.yaml_lines.specs.Rows.{text_at}
use Rattle.yaml_nodes.specs.declared.progress.Progress.{Progress}
use Rattle.yaml_nodes.specs.declared.spot.Spot.{Spot}
use Rattle.yaml_nodes.specs.declared.spot.Spot.TheVariants.{Here}
use Rattle.yaml_nodes.specs.Marks.{is_item, is_key_behind, is_property, is_quote, starts}
use Rattle.yaml_nodes.specs.Progress.{more_text, one_node}
use Rattle.yaml_nodes.specs.Properties.{no_properties}
use Rattle.yaml_nodes.specs.Scalars.{is_null_word, plain_scalar, word}
use Rattle.yaml_tree.specs.Blocks.{Reader, block_or_inline, node_with}
use Rattle.yaml_tree.specs.Inline.{Owned, goes_on_at, inline, inline_alone}
use Rattle.laws_yaml.specs.BlockLaws.{are_word_chars, is_word_char, scalar_of}
use Rattle.yaml_tree.specs.Parts.{begun}
use Rattle.laws_yaml.proofs.PlainWords.{no_key, no_key_behind, plain_alone}
use Rattle.laws_yaml.proofs.WordLines.{never, no_alias, no_block, no_flow, no_item, no_property, no_quote}

-- what was read, with more bytes
abbrev pub counted : Progress → ℕ → Progress
counted p bytes = record p { text = p.text + bytes }

-- what was read, with more nodes and bytes
abbrev pub grown : Progress → ℕ → ℕ → Progress
grown p nodes bytes = record p { nodes = p.nodes + nodes; text = p.text + bytes }

pub text_fits : (p : Progress) (row : Row) (spot : Spot) (bytes : ℕ) → p.text + bytes ≤ 16777216 → more_text p row spot bytes ≡ Ok (counted p bytes)
text_fits p row spot bytes fits = rw (le-ltb 16777216 (p.text + bytes) fits)

pub node_fits : (levels : ℕ) (p : Progress) (row : Row) (at bytes : ℕ) → 0 < levels → p.nodes < 200000 → p.text + bytes ≤ 16777216 → one_node levels p row at bytes ≡ Ok (grown p 1 bytes)
node_fits levels p row at bytes some room fits = rw (le-ltb levels 1 (omega arith), le-ltb 200000 (p.nodes + 1) (omega arith), le-ltb 16777216 (p.text + bytes) fits)

-- a node without properties on its line
pub node_is : (levels under : ℕ) (read : Reader) (owner : Owned) (p : Progress) (at : ℕ) (line : LogicalLine) (more : List LogicalLine) → begun p line ≡ Ok p → is_property (text_at line.row at) ≡ false
    → node_with levels under read owner no_properties p at (line ∷ more) ≡ block_or_inline levels under read owner no_properties p at line more
node_is levels under read owner p at line more begins plain = rw (begins, plain)

scalar_is : (p : Progress) (row : Row) (at n : ℕ) (cs : List ℕ) → is_null_word (encode_utf8_all cs) ≡ false → p.text + length (encode_utf8_all cs) ≤ 16777216
    → plain_scalar no_properties p row at (Some (cs, n)) ≡ Ok ((scalar_of cs, at + n), counted p (length (encode_utf8_all cs)))
scalar_is p row at n cs spells fits = rw (spells, text_fits p row (Here at) (length (encode_utf8_all cs)) fits)

word_by : (levels : ℕ) (p q : Progress) (row : Row) (at : ℕ) → starts 42 (drop at row.chars) ≡ false → is_quote (drop at row.chars) ≡ false → one_node levels p row at 0 ≡ Ok q
    → word Block levels no_properties p row at ≡ plain_scalar no_properties q row at (plain_of Block (drop at row.chars))
word_by levels p q row at no_star unquoted counts = rw (no_star, counts, unquoted)

inline_by : (levels column : ℕ) (p : Progress) (line : LogicalLine) (at : ℕ) → begins_flow (drop at line.row.chars) ≡ false → begins_block (drop at line.row.chars) ≡ false
    → inline levels column no_properties p line at ≡ word Block levels no_properties p line.row at
inline_by levels column p line at flat bare = rw (flat, bare)

pub alone_by : (levels indent column : ℕ) (p q : Progress) (line : LogicalLine) (at end : ℕ) (tree : Tree) → inline levels column no_properties p line at ≡ Ok ((tree, end), q) → drop end line.row.chars ≡ []
    → inline_alone levels indent column no_properties p line at [] ≡ Ok (tree, q)
alone_by levels indent column p q line at end tree reads ends = rw (reads, ends)

-- the last of four cases
pub last_of_four : {A : Type 0} (a b c : Bool) (x y z last : A) → a ≡ false → b ≡ false → c ≡ false → cond a x (cond b y (cond c z last)) ≡ last
last_of_four a b c x y z last p q r = rw (p, q, r)

-- the last of three cases
pub last_of_three : {A : Type 0} (a b : Bool) (x y last : A) → a ≡ false → b ≡ false → cond a x (cond b y last) ≡ last
last_of_three a b x y last p q = rw (p, q)

block_or_inline_by : (levels under : ℕ) (read : Reader) (owner : Owned) (p : Progress) (at : ℕ) (line : LogicalLine) (more : List LogicalLine)
    → is_item (drop at line.row.chars) ≡ false → is_key_behind Block (drop at line.row.chars) ≡ false
    → block_or_inline levels under read owner no_properties p at line more ≡ inline_alone levels (goes_on_at owner line at) owner.column no_properties p line at more
block_or_inline_by levels under read owner p at line more undashed unkeyed = last_of_three _ _ _ _ _ undashed unkeyed

module _ (levels : ℕ) (p : Progress) (line : LogicalLine) (at c : ℕ) (cs : List ℕ) (here : drop at line.row.chars ≡ c ∷ cs) (chars : are_word_chars (c ∷ cs) ≡ true) (spells : is_null_word (encode_utf8_all (c ∷ cs)) ≡ false) (some : 0 < levels) (room : p.nodes < 200000) (fits : p.text + length (encode_utf8_all (c ∷ cs)) ≤ 16777216) where
  is_first : is_word_char c ≡ true
  is_first = (and_parts (is_word_char c) (are_word_chars cs) chars).0

  word_is : word Block levels no_properties p line.row at ≡ Ok ((scalar_of (c ∷ cs), at + suc (length cs)), grown p 1 (length (encode_utf8_all (c ∷ cs))))
  word_is =
      let bytes = length (encode_utf8_all (c ∷ cs)) in
      let sum : p.text + 0 + bytes ≡ p.text + bytes = omega arith in
      word_by levels p (grown p 1 0) line.row at (rw here (no_alias c cs is_first)) (rw here (no_quote c cs is_first)) (node_fits levels p line.row at 0 some room (omega (arith, fits)))
      ∙ ap (plain_scalar no_properties (grown p 1 0) line.row at) (ap (plain_of Block) here ∙ plain_alone c cs chars)
      ∙ scalar_is (grown p 1 0) line.row at (suc (length cs)) (c ∷ cs) spells (omega (arith, fits))
      ∙ ap (λ text. Ok ((scalar_of (c ∷ cs), at + suc (length cs)), record p { nodes = p.nodes + 1; text = text })) sum

  inline_is : (column : ℕ) → inline levels column no_properties p line at ≡ Ok ((scalar_of (c ∷ cs), at + suc (length cs)), grown p 1 (length (encode_utf8_all (c ∷ cs))))
  inline_is column = inline_by levels column p line at (rw here (no_flow c cs is_first)) (rw here (no_block c cs is_first)) ∙ word_is

  end_is : drop (at + suc (length cs)) line.row.chars ≡ []
  end_is = sym (drop-drop (suc (length cs)) at line.row.chars) ∙ rw here (drop_all (length cs) cs (omega arith))

  pub alone_is : (indent column : ℕ) → inline_alone levels indent column no_properties p line at [] ≡ Ok (scalar_of (c ∷ cs), grown p 1 (length (encode_utf8_all (c ∷ cs))))
  alone_is indent column = alone_by levels indent column p _ line at (at + suc (length cs)) _ (inline_is column) end_is

  -- no block begins with a word alone
  pub value_is : (under : ℕ) (read : Reader) (owner : Owned) → block_or_inline levels under read owner no_properties p at line [] ≡ Ok (scalar_of (c ∷ cs), grown p 1 (length (encode_utf8_all (c ∷ cs))))
  value_is under read owner =
      block_or_inline_by levels under read owner p at line [] (rw here (no_item c cs is_first)) (rw here (no_key_behind c cs chars))
      ∙ alone_is (goes_on_at owner line at) owner.column

-- the value of a line begins with its word
pub head_is : (owner at c : ℕ) (cs : List ℕ) → are_word_chars (c ∷ cs) ≡ true → head_of owner at 0 (c ∷ cs) ≡ (owner, at)
head_is owner at c cs chars =
    let first = (and_parts (is_word_char c) (are_word_chars cs) chars).0 in
    cond-false _ _ _ (never is_white refl c first) ∙ last_of_four _ _ _ _ _ _ _ (no_item c cs first) (no_property c cs first) (no_key c cs chars)
