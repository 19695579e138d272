-- Lines with what is shown of a tree are read as that tree.
use Rattle.std.proofs.Common.{◌≡◌, ◌∙◌, ℕ, ◌≤◌, false, List, [], ◌∷◌, Ok, map, ap, arith}
use Rattle.std.proofs.lemmas.Bool.{cond-false}
use Rattle.yaml_groups.specs.Grouped.{grouped}
use Rattle.project_print.specs.Pages.{Shown, lines_of}
use Rattle.tree_base.specs.Trees.{node_count, text_size}
use Rattle.tree_base.specs.declared.tree.Tree.{Tree}
use Rattle.yaml_lines.specs.declared.row.Row.{Row}
use Rattle.yaml_nodes.specs.Progress.{◌>>=◌, at_start}
use Rattle.yaml_nodes.specs.Properties.{no_properties}
use Rattle.yaml_tree.specs.Blocks.{below, node}
use Rattle.yaml_tree.specs.Reading.{document, is_start, no_owner}
use Rattle.laws_yaml.proofs.PageLines.{grouped_are, rows_are}
use Rattle.laws_yaml.proofs.Spells.{Spells, first_line, here_is, indent_is, row_is}
use Rattle.laws_yaml.proofs.Standing.{Stand, lone_line}

document_is : (levels file : ℕ) (value : Shown) (tree : Tree) (rows : List Row) → Spells levels value tree → Stand 0 (lines_of value) rows → node_count tree ≤ 200000 → text_size tree ≤ 16777216
    → document levels file (map lone_line rows) ≡ Ok tree
document_is levels file value tree [] spelled stand nodes text = absurd stand
document_is levels file value tree (row ∷ rows) spelled stand nodes text =
    let here = here_is 0 row value.first stand.0 in
    let line = row_is 0 row value.first stand.0 (first_line value spelled.lines) in
    let inside : is_start row.chars ≡ false = ap is_start here ∙ spelled.inside in
    ap (λ lines. below (node levels) no_owner no_properties (at_start file) lines >>= λ got. Ok got.0) (cond-false _ _ _ inside)
    ∙ ap (λ at. node levels no_owner no_properties (at_start file) at (lone_line row ∷ map lone_line rows) >>= λ got. Ok got.0) (indent_is 0 row value.first stand.0 spelled.unindented)
    ∙ ap (λ r. r >>= λ got. Ok got.0) (spelled.reads no_owner (at_start file) 0 row rows here line stand.1 (omega (arith, nodes)) (omega (arith, text)))

-- rows with the lines of what is shown
pub page_is : (levels file : ℕ) (value : Shown) (tree : Tree) (rows : List Row) → Spells levels value tree → Stand 0 (lines_of value) rows → node_count tree ≤ 200000 → text_size tree ≤ 16777216
    → document levels file (grouped 0 0 rows) ≡ Ok tree
page_is levels file value tree rows spelled stand nodes text =
    ap (document levels file) (grouped_are 0 rows (rows_are 0 (lines_of value) rows spelled.lines stand)) ∙ document_is levels file value tree rows spelled stand nodes text
