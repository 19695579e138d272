-- What is shown spells a tree: it is read as that tree wherever it stands, and so is a word.
use Rattle.std.proofs.Common.{◌≡◌, ◌∙◌, ℕ, suc, ◌+◌, ◌≤◌, Bool, true, false, cond, eqb, List, [], ◌∷◌, Ok, map, drop, refl, ap, arith, add-zero}
use Rattle.std.proofs.lemmas.Bool.{cond-false, or_from}
use Rattle.std.proofs.lemmas.List.Elements.{All-cons, All-head, All-nil}
use Rattle.yaml_groups.specs.declared.line.LogicalLine.{LogicalLine}
use Rattle.project_print.specs.Pages.{Shown, word}
use Rattle.tree_base.specs.Trees.{depth, node_count, text_size}
use Rattle.tree_base.specs.declared.tree.Tree.{Tree}
use Rattle.yaml_lines.specs.Blanks.{blanks, is_tab_first, is_white, spaces}
use Rattle.yaml_lines.specs.declared.plain.Context.TheVariants.{Block}
use Rattle.yaml_lines.specs.declared.row.Row.{Row}
use Rattle.yaml_nodes.specs.declared.progress.Progress.{Progress}
use Rattle.yaml_nodes.specs.Marks.{is_item, is_key_behind, is_property}
use Rattle.yaml_nodes.specs.Progress.{◌>>=◌}
use Rattle.yaml_nodes.specs.Properties.{no_properties}
use Rattle.yaml_tree.specs.Blocks.{Reader, block_or_inline, node}
use Rattle.yaml_tree.specs.Inline.{Owned, goes_on_at, inline_alone}
use Rattle.yaml_tree.specs.Parts.{PartReader, begun, later_parts, parted}
use Rattle.yaml_tree.specs.Reading.{is_start}
use Rattle.laws_yaml.proofs.NumberedLines.{row_with}
use Rattle.laws_yaml.proofs.OneLine.{counted, grown, last_of_three, node_is}
use Rattle.laws_yaml.proofs.PageLines.{ArePageLines, IsPageLine, begun_is, rows_are, value_lines}
use Rattle.laws_yaml.proofs.Standing.{Stand, drop_margin, lone_line, margin, spaces_margin}
use Rattle.laws_yaml.proofs.Values.{IsValue}

-- what is shown spells a tree, with so many levels for it
pub record Spells (levels : ℕ) (shown : Shown) (tree : Tree) : Type 0 where
  pub deep : depth tree ≤ levels
  pub lines : ArePageLines shown
  pub unindented : spaces shown.first ≡ 0
  pub inside : is_start shown.first ≡ false
  pub value : shown.is_block ≡ false → (shown.more ≡ []) × IsValue shown.first tree
  pub reads : (owner : Owned) (p : Progress) (column : ℕ) (row : Row) (rows : List Row) → drop column row.chars ≡ shown.first → IsPageLine row.chars → Stand column shown.more rows
      → p.nodes + node_count tree ≤ 200000 → p.text + text_size tree ≤ 16777216
      → node levels owner no_properties p column (lone_line row ∷ map lone_line rows) ≡ Ok (tree, grown p (node_count tree) (text_size tree))

-- what grows twice
pub grown_to : (p : Progress) (a b c d nodes text : ℕ) → a + c ≡ nodes → b + d ≡ text → grown (grown p a b) c d ≡ grown p nodes text
grown_to p a b c d nodes text e f =
    let one : p.nodes + a + c ≡ p.nodes + nodes = omega arith in
    let two : p.text + b + d ≡ p.text + text = omega arith in
    λ i. record p { nodes = one i; text = two i }

pub grown_none : (p : Progress) → grown p 0 0 ≡ p
grown_none p = λ i. record p { nodes = add-zero p.nodes i; text = add-zero p.text i }

-- bytes before nodes
pub counted_grown : (p : Progress) (bytes nodes more text : ℕ) → bytes + more ≡ text → grown (counted p bytes) nodes more ≡ grown p nodes text
counted_grown p bytes nodes more text e =
    let sum : p.text + bytes + more ≡ p.text + text = omega arith in
    λ i. record p { nodes = p.nodes + nodes; text = sum i }

pub no_rows : (column : ℕ) (rows : List Row) → Stand column [] rows → rows ≡ []
no_rows column [] stand = refl
no_rows column (row ∷ rows) stand = absurd stand

-- the column of a row that has a line without spaces in front
pub indent_is : (column : ℕ) (row : Row) (line : List ℕ) → row ≡ row_with row.number (margin column line) → spaces line ≡ 0 → row.indent ≡ column
indent_is column row line is first = ap (λ r. r.indent) is ∙ spaces_margin column line ∙ ap (λ n. column + n) first ∙ add-zero column

pub here_is : (column : ℕ) (row : Row) (line : List ℕ) → row ≡ row_with row.number (margin column line) → drop column row.chars ≡ line
here_is column row line is = ap (λ r. drop column r.chars) is ∙ drop_margin column line

-- a row of a line of a page
pub row_is : (column : ℕ) (row : Row) (line : List ℕ) → row ≡ row_with row.number (margin column line) → IsPageLine line → IsPageLine row.chars
row_is column row line is page =
    All-head (λ (r : Row). IsPageLine r.chars) row [] (rows_are column (line ∷ []) (row ∷ []) (All-cons IsPageLine line [] page (All-nil IsPageLine)) (is, tt))

-- the lines of what is shown, one by one
pub first_line : (shown : Shown) → ArePageLines shown → IsPageLine shown.first
first_line shown lines = All-head IsPageLine shown.first shown.more lines

-- no white space stands in front where no space and no tab does
pub no_blanks : (cs : List ℕ) → spaces cs ≡ 0 → is_tab_first cs ≡ false → blanks cs ≡ 0
no_blanks [] first untabbed = refl
no_blanks (c ∷ cs) first untabbed = by (eqb c 32) refl first untabbed
  where
    by : (b : Bool) → eqb c 32 ≡ b → cond b (spaces cs + 1) 0 ≡ 0 → cond b (is_tab_first cs) (eqb c 9) ≡ false → blanks (c ∷ cs) ≡ 0
    by true e first untabbed = absurd (omega (arith, first))
    by false e first untabbed = cond-false (is_white c) (blanks cs + 1) 0 (or_from (eqb c 32) (eqb c 9) e untabbed)

pub part_is : {A : Type 0} (belongs : LogicalLine → Bool) (read : PartReader A) (done : A × Progress) (line : LogicalLine) (more : List LogicalLine) (parts : List (LogicalLine × List LogicalLine)) → begun done.1 line ≡ Ok done.1 → belongs line ≡ true
    → later_parts belongs read done ((line, more) ∷ parts) ≡ (read done line more >>= λ done. later_parts belongs read done parts)
part_is belongs read done line more parts begins here = rw (begins, here)

pub begins_at_once : (begins : LogicalLine → Bool) (line : LogicalLine) (lines : List LogicalLine) → begins line ≡ true → (parted begins (line ∷ lines)).0 ≡ []
begins_at_once begins line lines is = rw is

inline_by : (levels under : ℕ) (read : Reader) (owner : Owned) (p : Progress) (at : ℕ) (line : LogicalLine) (more : List LogicalLine) → is_item (drop at line.row.chars) ≡ false → is_key_behind Block (drop at line.row.chars) ≡ false
    → block_or_inline levels under read owner no_properties p at line more ≡ inline_alone levels (goes_on_at owner line at) owner.column no_properties p line at more
inline_by levels under read owner p at line more undashed unkeyed = last_of_three _ _ _ _ _ undashed unkeyed

-- a word that stands for a tree spells it
pub word_spells : (levels : ℕ) (text : List ℕ) (tree : Tree) → IsValue text tree → depth tree ≤ suc levels → Spells (suc levels) (word text) tree
word_spells levels text tree is deep = record {
  deep = deep;
  lines = value_lines text is;
  unindented = is.unindented;
  inside = is.inside;
  value = λ e. (refl, is);
  reads = λ owner p column row rows here line stand nodes bytes.
      ap (λ rs. node (suc levels) owner no_properties p column (lone_line row ∷ map lone_line rs)) (no_rows column rows stand)
      ∙ node_is (suc levels) levels (node levels) owner p column (lone_line row) [] (begun_is p (lone_line row) line) (ap is_property here ∙ is.bare)
      ∙ inline_by (suc levels) levels (node levels) owner p column (lone_line row) [] (ap is_item here ∙ is.undashed) (ap (is_key_behind Block) here ∙ is.unkeyed)
      ∙ is.alone (suc levels) (goes_on_at owner (lone_line row) column) owner.column p (lone_line row) column here deep nodes bytes;
}
