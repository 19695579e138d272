-- A scalar that takes the rest of its line.
use Rattle.std.proofs.Common.{◌≡◌, ◌∙◌, ℕ, ◌+◌, ◌<◌, ◌≤◌, List, [], false, Ok, drop, length, sym, ap, arith}
use Rattle.std.proofs.lemmas.List.{drop-drop, drop_all}
use Rattle.yaml_groups.specs.declared.line.LogicalLine.{LogicalLine}
use Rattle.yaml_groups.specs.Grouped.{begins_block, begins_flow, belonging}
use Rattle.tree_base.specs.Trees.{depth, node_count, text_size}
use Rattle.tree_base.specs.declared.tree.Tree.{Tree}
use Rattle.yaml_lines.specs.declared.plain.Context.TheVariants.{Block}
use Rattle.yaml_lines.specs.declared.row.Row.{Row}
use Rattle.yaml_nodes.specs.declared.progress.Progress.{Progress}
use Rattle.yaml_nodes.specs.declared.spot.Spot.TheVariants.{Here}
use Rattle.yaml_nodes.specs.Marks.{starts}
use Rattle.yaml_nodes.specs.Progress.{◌>>=◌, one_node}
use Rattle.yaml_nodes.specs.Properties.{no_properties}
use Rattle.yaml_nodes.specs.Scalars.{scalar_at}
use Rattle.yaml_nodes.specs.Scalars as nodes
use Rattle.yaml_tree.specs.Inline.{inline, inline_alone}
use Rattle.laws_yaml.proofs.OneLine.{alone_by, grown, last_of_three, node_fits, text_fits}
use Rattle.laws_yaml.proofs.Sizes.{IsOfSizes}

-- nothing stands behind the last characters of a row
pub nothing_behind : (at : ℕ) (chars cs : List ℕ) → drop at chars ≡ cs → drop (at + length cs) chars ≡ []
nothing_behind at chars cs here = sym (drop-drop (length cs) at chars) ∙ ap (drop (length cs)) here ∙ drop_all (length cs) cs (omega arith)

module _ (word bytes : List ℕ) (tree : Tree) (sizes : IsOfSizes tree 1 1 (length bytes)) (no_flow : begins_flow word ≡ false) (no_block : begins_block word ≡ false) (no_star : starts 42 word ≡ false)
    (reads : (p : Progress) (row : Row) (at : ℕ) → drop at row.chars ≡ word → scalar_at Block no_properties p row at ≡ nodes.scalar no_properties p row at tree bytes (length word)) where
  abbrev size : ℕ
  size = length bytes

  -- on the rest of a line it is read as its text
  word_by : (levels : ℕ) (p q : Progress) (row : Row) (at : ℕ) → starts 42 (drop at row.chars) ≡ false
      → one_node levels p row at 0 ≡ Ok q
      → nodes.word Block levels no_properties p row at ≡ scalar_at Block no_properties q row at
  word_by levels p q row at no_star counts = rw (no_star, counts)

  inline_is : (levels column : ℕ) (p : Progress) (line : LogicalLine) (at : ℕ)
      → drop at line.row.chars ≡ word → 0 < levels → p.nodes < 200000 → p.text + size ≤ 16777216
      → inline levels column no_properties p line at ≡ Ok ((tree, at + length word), grown p 1 size)
  inline_is levels column p line at here some room fits =
      let sum : p.text + 0 + size ≡ p.text + size = omega arith in
      let flat : begins_flow (drop at line.row.chars) ≡ false = ap begins_flow here ∙ no_flow in
      let bare : begins_block (drop at line.row.chars) ≡ false = ap begins_block here ∙ no_block in
      last_of_three _ _ _ _ _ flat bare
      ∙ word_by levels p (grown p 1 0) line.row at (ap (starts 42) here ∙ no_star) (node_fits levels p line.row at 0 some room (omega (arith, fits)))
      ∙ reads (grown p 1 0) line.row at here
      ∙ ap (λ r. r >>= λ q. Ok (nodes.ending (at + length word) (tree, q))) (text_fits (grown p 1 0) line.row (Here at) size (omega (arith, fits)))
      ∙ ap (λ total. Ok ((tree, at + length word), record p { nodes = p.nodes + 1; text = total })) sum

  pub alone_is : (levels indent column : ℕ) (p : Progress) (line : LogicalLine) (at : ℕ)
      → drop at line.row.chars ≡ word → depth tree ≤ levels
      → p.nodes + node_count tree ≤ 200000 → p.text + text_size tree ≤ 16777216
      → inline_alone levels indent column no_properties p line at [] ≡ Ok (tree, grown p (node_count tree) (text_size tree))
  alone_is levels indent column p line at here deep room fits =
      let some : 0 < levels = omega (arith, deep, sizes.levels) in
      let one : p.nodes < 200000 = omega (arith, room, sizes.nodes) in
      let long : p.text + size ≤ 16777216 = omega (arith, fits, sizes.text) in
      alone_by levels indent column p (grown p 1 size) line at (at + length word) tree (inline_is levels column p line at here some one long) (nothing_behind at line.row.chars word here)
      ∙ (λ i. Ok (tree, grown p (sym sizes.nodes i) (sym sizes.text i)))

  pub lone_is : (owner at : ℕ) (row : Row) (rows : List Row) → drop at row.chars ≡ word
      → belonging (owner, at) row rows ≡ 0
  lone_is owner at row rows here =
      let flat : begins_flow (drop at row.chars) ≡ false = ap begins_flow here ∙ no_flow in
      let bare : begins_block (drop at row.chars) ≡ false = ap begins_block here ∙ no_block in
      last_of_three _ _ _ _ _ flat bare
