-- Items of a page, one below the other, are read as the sequence of what they spell.
use Rattle.std.proofs.Common.{◌≡◌, ◌∙◌, ℕ, suc, ◌+◌, ◌≤◌, ◌++◌, true, false, eqb, List, [], ◌∷◌, All, Ok, Result, codes, map, flat_map, sum_by, drop, nat_le, refl, sym, ap, arith, append_assoc}
use Rattle.std.proofs.lemmas.Bool.{and_from, eq-eqb, le-leb}
use Rattle.std.proofs.lemmas.List.{append-nil, drop-drop}
use Rattle.std.proofs.lemmas.List.Elements.{All-cons, All-nil}
use Rattle.std.proofs.lemmas.List.Sums.{sum_by-cons}
use Rattle.yaml_groups.specs.declared.line.LogicalLine.{LogicalLine}
use Rattle.project_print.specs.declared.node.Node.{Node}
use Rattle.project_print.specs.Pages.{Shown, block, deeper, item, lines_of, shown, word}
use Rattle.tree_base.specs.Trees.{depth, node_count, text_size}
use Rattle.tree_base.specs.declared.tree.Tree.{Tree}
use Rattle.tree_base.specs.declared.tree.Tree.TheVariants.{Seq}
use Rattle.yaml_lines.specs.Blanks.{blanks, is_rest_blank}
use Rattle.yaml_lines.specs.declared.refusal.YamlRefusal.{YamlRefusal}
use Rattle.yaml_lines.specs.declared.row.Row.{Row}
use Rattle.yaml_nodes.specs.declared.progress.Progress.{Progress}
use Rattle.yaml_nodes.specs.Marks.{is_item, is_property}
use Rattle.yaml_nodes.specs.Progress.{◌>>=◌}
use Rattle.yaml_nodes.specs.Properties.{no_properties}
use Rattle.yaml_tree.specs.Blocks.{Reader, block_item, block_sequence, item_node, node}
use Rattle.yaml_tree.specs.Inline.{Owned}
use Rattle.yaml_tree.specs.Parts.{begins_item, is_item_at, later_parts, parted}
use Rattle.yaml_tree.specs.Parts as parts
use Rattle.laws_yaml.proofs.NumberedLines.{row_with}
use Rattle.laws_yaml.proofs.OneLine.{grown, node_fits, node_is}
use Rattle.laws_yaml.proofs.Sizes.{seq_sizes}
use Rattle.laws_yaml.proofs.Sequences.{sequence_by}
use Rattle.laws_yaml.proofs.Layers.{part_of_item}
use Rattle.laws_yaml.proofs.PageLines.{ArePageLines, IsPageLine, begun_is, block_lines, item_lines, value_lines}
use Rattle.laws_yaml.proofs.PageParts.{no_item_begins, parted_more, parted_part}
use Rattle.laws_yaml.proofs.Spells.{Spells, begins_at_once, first_line, grown_none, grown_to, here_is, indent_is, no_blanks, part_is, row_is}
use Rattle.laws_yaml.proofs.Standing.{Stand, lone_line, margin, stand_deeper, stand_split}
use Rattle.laws_yaml.proofs.Values.{empty_seq_value}
use Rattle.laws_yaml.specs.Readable.{spelled_by}

-- each of some nodes spells its tree
abbrev pub AreSpelled : ℕ → List Node → Type 0
AreSpelled levels [] = Unit {0}
AreSpelled levels (x ∷ xs) = Spells levels (shown x) (spelled_by x) × AreSpelled levels xs

-- the lines of items
abbrev item_lines_of : List Node → List (List ℕ)
item_lines_of xs = flat_map lines_of (map part_of_item xs)

abbrev nodes_in : List Node → ℕ
nodes_in xs = sum_by node_count (map spelled_by xs)

abbrev text_in : List Node → ℕ
text_in xs = sum_by text_size (map spelled_by xs)

item_by : (column : ℕ) (read : Reader) (p : Progress) (line : LogicalLine) (more : List LogicalLine) (at : ℕ) → is_rest_blank false (drop (column + 1) line.row.chars) ≡ false → column + 1 + blanks (drop (column + 1) line.row.chars) ≡ at
    → item_node column read p line more ≡ read (record { row = line.row; column = column; is_key = false }) no_properties p at (line ∷ more)
item_by column read p line more at black is = rw (black, is)

item_begins : (column : ℕ) (row : Row) (line : List ℕ) → row ≡ row_with row.number (margin column (45 ∷ 32 ∷ line)) → begins_item column (lone_line row) ≡ true
item_begins column row line is = ap (λ n. nat_le n column) (indent_is column row (45 ∷ 32 ∷ line) is refl) ∙ le-leb column column (omega arith)

item_belongs : (column : ℕ) (row : Row) (line : List ℕ) → row ≡ row_with row.number (margin column (45 ∷ 32 ∷ line)) → is_item_at column (lone_line row) ≡ true
item_belongs column row line is =
    and_from (eqb row.indent column) (is_item (drop column row.chars)) (eq-eqb row.indent column (indent_is column row (45 ∷ 32 ∷ line) is refl)) (ap is_item (here_is column row (45 ∷ 32 ∷ line) is))

none_before : (column : ℕ) (xs : List Node) (rows : List Row) → Stand column (item_lines_of xs) rows → (parted (begins_item column) (map lone_line rows)).0 ≡ []
none_before column [] [] stand = refl
none_before column [] (row ∷ rows) stand = absurd stand
none_before column (x ∷ xs) [] stand = absurd stand
none_before column (x ∷ xs) (row ∷ rows) stand = begins_at_once (begins_item column) (lone_line row) (map lone_line rows) (item_begins column row (shown x).first stand.0)

module _ (levels : ℕ) where
  -- an item, whose dash stands at a column
  item_is : (value : Shown) (tree : Tree) → Spells levels value tree → (column : ℕ) (items : List Tree) (p : Progress) (row : Row) (rows : List Row)
      → drop column row.chars ≡ 45 ∷ 32 ∷ value.first → IsPageLine row.chars → Stand column (map deeper value.more) rows → p.nodes + node_count tree ≤ 200000 → p.text + text_size tree ≤ 16777216
      → block_item column (node levels) (items, p) (lone_line row) (map lone_line rows) ≡ Ok (items ++ tree ∷ [], grown p (node_count tree) (text_size tree))
  item_is value tree spells column items p row rows here line stand nodes text =
      let rest : drop (column + 1) row.chars ≡ 32 ∷ value.first = sym (drop-drop 1 column row.chars) ∙ ap (drop 1) here in
      let place : column + 2 ≡ suc (suc column) = omega arith in
      let first : drop (suc (suc column)) row.chars ≡ value.first = ap (λ n. drop n row.chars) (sym place) ∙ sym (drop-drop 2 column row.chars) ∙ ap (drop 2) here in
      let page = first_line value spells.lines in
      let black : is_rest_blank false (drop (column + 1) row.chars) ≡ false = ap (is_rest_blank false) rest ∙ page.black true in
      let behind : blanks (drop (column + 1) row.chars) ≡ 1 = ap blanks rest ∙ ap (λ n. n + 1) (no_blanks value.first spells.unindented page.untabbed) in
      let at : column + 1 + blanks (drop (column + 1) row.chars) ≡ suc (suc column) = ap (λ n. column + 1 + n) behind ∙ omega arith in
      let owner : Owned = record { row = row; column = column; is_key = false } in
      ap (λ r. r >>= λ got. Ok (items ++ got.0 ∷ [], got.1))
      (item_by column (node levels) p (lone_line row) (map lone_line rows) (suc (suc column)) black at
      ∙ spells.reads owner p (suc (suc column)) row rows first line (stand_deeper column value.more rows stand) nodes text)

  items_from : ℕ → List Tree × Progress → List Row → Result (List Tree × Progress) YamlRefusal
  items_from column done rows = later_parts (is_item_at column) (block_item column (node levels)) done (parted (begins_item column) (map lone_line rows)).1

  none_is : (column : ℕ) (items : List Tree) (p : Progress) → items_from column (items, p) [] ≡ Ok (items ++ [], grown p 0 0)
  unfolding items_from
  none_is column items p = λ i. Ok (sym (append-nil items) i, sym (grown_none p) i)

  -- the first of some items, and the later ones
  first_is : (column : ℕ) (done : List Tree × Progress) (row : Row) (rows mine later : List Row) (x : Node) (xs : List Node) → row ≡ row_with row.number (margin column (45 ∷ 32 ∷ (shown x).first)) → IsPageLine row.chars
      → rows ≡ mine ++ later → Stand column (map deeper (shown x).more) mine → Stand column (item_lines_of xs) later
      → items_from column done (row ∷ rows) ≡ (block_item column (node levels) done (lone_line row) (map lone_line mine) >>= λ done. items_from column done later)
  unfolding items_from
  first_is column done row rows mine later x xs is line cut own stand =
      ap (λ rs. later_parts (is_item_at column) (block_item column (node levels)) done (parted (begins_item column) (lone_line row ∷ map lone_line rs)).1) cut
      ∙ ap (λ found. later_parts (is_item_at column) (block_item column (node levels)) done found.1)
      (parted_part (begins_item column) row mine later (item_begins column row (shown x).first is) (no_item_begins column (shown x).more mine own) (none_before column xs later stand))
      ∙ part_is (is_item_at column) (block_item column (node levels)) done (lone_line row) (map lone_line mine) (parted (begins_item column) (map lone_line later)).1 (begun_is done.1 (lone_line row) line) (item_belongs column row (shown x).first is)

  -- an item and those behind it count together
  counts : (p : Progress) (x : Node) (xs : List Node) → grown (grown p (node_count (spelled_by x)) (text_size (spelled_by x))) (nodes_in xs) (text_in xs) ≡ grown p (nodes_in (x ∷ xs)) (text_in (x ∷ xs))
  counts p x xs =
      grown_to p (node_count (spelled_by x)) (text_size (spelled_by x)) (nodes_in xs) (text_in xs) (nodes_in (x ∷ xs)) (text_in (x ∷ xs))
      (sym (sum_by-cons node_count (spelled_by x) (map spelled_by xs))) (sym (sum_by-cons text_size (spelled_by x) (map spelled_by xs)))

  items_are : (column : ℕ) (xs : List Node) → AreSpelled levels xs → (items : List Tree) (p : Progress) (rows : List Row) → Stand column (item_lines_of xs) rows → p.nodes + nodes_in xs ≤ 200000 → p.text + text_in xs ≤ 16777216
      → items_from column (items, p) rows ≡ Ok (items ++ map spelled_by xs, grown p (nodes_in xs) (text_in xs))
  items_are column [] are items p [] stand nodes text = none_is column items p
  items_are column [] are items p (row ∷ rows) stand nodes text = absurd stand
  items_are column (x ∷ xs) are items p [] stand nodes text = absurd stand
  items_are column (x ∷ xs) are items p (row ∷ rows) stand nodes text =
      let cut = stand_split column (map deeper (shown x).more) (item_lines_of xs) rows stand.1 in
      let many = sum_by-cons node_count (spelled_by x) (map spelled_by xs) in
      let long = sum_by-cons text_size (spelled_by x) (map spelled_by xs) in
      let line = row_is column row (45 ∷ 32 ∷ (shown x).first) stand.0 (first_line (item (shown x)) (item_lines (shown x) are.0.lines)) in
      let next = grown p (node_count (spelled_by x)) (text_size (spelled_by x)) in
      first_is column (items, p) row rows cut.0 cut.1 x xs stand.0 line cut.2 cut.3 cut.4
      ∙ ap (λ r. r >>= λ done. items_from column done cut.1)
      (item_is (shown x) (spelled_by x) are.0 column items p row cut.0 (here_is column row (45 ∷ 32 ∷ (shown x).first) stand.0) line cut.3 (omega (arith, nodes, many)) (omega (arith, text, long)))
      ∙ items_are column xs are.1 (items ++ spelled_by x ∷ []) next cut.1 cut.4 (omega (arith, nodes, many)) (omega (arith, text, long))
      ∙ (λ i. Ok (append_assoc items (spelled_by x ∷ []) (map spelled_by xs) i, counts p x xs i))

  items_block : ℕ → Row → List Row → Progress → Result (List Tree × Progress) YamlRefusal
  items_block column row rows p = parts.block (begins_item column) (is_item_at column) (block_item column (node levels)) ([], p) (lone_line row) (map lone_line rows)

  block_is : (column : ℕ) (p : Progress) (row : Row) (rows mine later : List Row) (x : Node) (xs : List Node) → rows ≡ mine ++ later → Stand column (map deeper (shown x).more) mine → Stand column (item_lines_of xs) later
      → items_block column row rows p ≡ (block_item column (node levels) ([], p) (lone_line row) (map lone_line mine) >>= λ done. items_from column done later)
  unfolding items_from items_block
  block_is column p row rows mine later x xs cut own stand =
      ap (λ rs. parts.block (begins_item column) (is_item_at column) (block_item column (node levels)) ([], p) (lone_line row) (map lone_line rs)) cut
      ∙ ap (λ found. block_item column (node levels) ([], p) (lone_line row) found.0 >>= λ done. later_parts (is_item_at column) (block_item column (node levels)) done found.1)
      (parted_more (begins_item column) mine later (no_item_begins column (shown x).more mine own) (none_before column xs later stand))

  sequence_is : (column : ℕ) (x : Node) (xs : List Node) → AreSpelled levels (x ∷ xs) → (p : Progress) (row : Row) (rows : List Row) → drop column row.chars ≡ 45 ∷ 32 ∷ (shown x).first → IsPageLine row.chars
      → Stand column (map deeper (shown x).more ++ item_lines_of xs) rows → p.nodes + (1 + nodes_in (x ∷ xs)) ≤ 200000 → p.text + text_in (x ∷ xs) ≤ 16777216
      → block_sequence (suc levels) (node levels) no_properties p column (lone_line row) (map lone_line rows) ≡ Ok (Seq (map spelled_by (x ∷ xs)), grown p (1 + nodes_in (x ∷ xs)) (text_in (x ∷ xs)))
  unfolding items_block
  sequence_is column x xs are p row rows here line stand nodes text =
      let cut = stand_split column (map deeper (shown x).more) (item_lines_of xs) rows stand in
      let many = sum_by-cons node_count (spelled_by x) (map spelled_by xs) in
      let long = sum_by-cons text_size (spelled_by x) (map spelled_by xs) in
      let count = node_fits (suc levels) p row column 0 (omega arith) (omega (arith, nodes)) (omega (arith, text)) in
      let q = grown p 1 0 in
      let next = grown q (node_count (spelled_by x)) (text_size (spelled_by x)) in
      let whole : Result (List Tree × Progress) YamlRefusal → Result (Tree × Progress) YamlRefusal = λ r. r >>= λ got. Ok (Seq got.0, got.1) in
      ap (λ r. r >>= λ q. whole (items_block column row rows q)) count
      ∙ ap whole
      (block_is column q row rows cut.0 cut.1 x xs cut.2 cut.3 cut.4
      ∙ ap (λ r. r >>= λ done. items_from column done cut.1) (item_is (shown x) (spelled_by x) are.0 column [] q row cut.0 here line cut.3 (omega (arith, nodes, many)) (omega (arith, text, long)))
      ∙ items_are column xs are.1 (spelled_by x ∷ []) next cut.1 cut.4 (omega (arith, nodes, many)) (omega (arith, text, long)))
      ∙ ap (λ s. Ok (Seq (map spelled_by (x ∷ xs)), s)) (counts q x xs ∙ grown_to p 1 0 (nodes_in (x ∷ xs)) (text_in (x ∷ xs)) (1 + nodes_in (x ∷ xs)) (text_in (x ∷ xs)) refl (omega arith))

  parts_are : (xs : List Node) → AreSpelled levels xs → All ArePageLines (map part_of_item xs)
  parts_are [] are = All-nil ArePageLines
  parts_are (x ∷ xs) are = All-cons ArePageLines (part_of_item x) (map part_of_item xs) (item_lines (shown x) are.0.lines) (parts_are xs are.1)

  -- items spell their sequence
  pub items_spell : (x : Node) (xs : List Node) → AreSpelled levels (x ∷ xs) → depth (Seq (map spelled_by (x ∷ xs))) ≤ suc levels → Spells (suc levels) (block (codes "[]") (map part_of_item (x ∷ xs))) (Seq (map spelled_by (x ∷ xs)))
  items_spell x xs are deep =
      let sizes = seq_sizes (map spelled_by (x ∷ xs)) in
      record {
        deep = deep;
        lines = block_lines (codes "[]") (map part_of_item (x ∷ xs)) (first_line (word (codes "[]")) (value_lines (codes "[]") empty_seq_value)) (parts_are (x ∷ xs) are);
        unindented = refl;
        inside = refl;
        value = λ e. absurd (cc);
        reads = λ owner p column row rows here line stand nodes text.
            node_is (suc levels) levels (node levels) owner p column (lone_line row) (map lone_line rows) (begun_is p (lone_line row) line) (ap is_property here)
            ∙ sequence_by (suc levels) levels (node levels) owner p column (lone_line row) (map lone_line rows) (ap is_item here)
            ∙ sequence_is column x xs are p row rows here line stand (omega (arith, nodes, sizes.nodes)) (omega (arith, text, sizes.text))
            ∙ (λ i. Ok (Seq (map spelled_by (x ∷ xs)), grown p (sym sizes.nodes i) (sym sizes.text i)));
      }
