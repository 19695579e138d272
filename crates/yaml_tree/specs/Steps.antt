-- Steps of the reading of blocks that stand in it more than once, or have no name there.
use Rattle.std.specs.Prelude.{ℕ, zero, suc, List, Bool, true, Result, Ok, if◌then◌else◌}
use Rattle.yaml_groups.specs.declared.line.LogicalLine.{LogicalLine}
use Rattle.tree_base.specs.declared.tree.Tree.{Tree}
use Rattle.yaml_lines.specs.Blanks.{is_rest_blank}
use Rattle.yaml_lines.specs.declared.refusal.YamlFault.TheVariants.{BadIndent}
use Rattle.yaml_lines.specs.declared.refusal.YamlRefusal.{YamlRefusal}
use Rattle.yaml_lines.specs.Rows.{text_at}
use Rattle.yaml_nodes.specs.declared.progress.Progress.{Progress}
use Rattle.yaml_nodes.specs.declared.properties.Properties.{Properties}
use Rattle.yaml_nodes.specs.Progress.{◌>>=◌, bad}
use Rattle.yaml_nodes.specs.Properties.{carried}
use Rattle.yaml_tree.specs.Blocks.{Reader, below, no_level, node}
use Rattle.yaml_tree.specs.Inline.{Owned, inline_alone}
use Rattle.yaml_tree.specs.Parts.{begun}

-- the reader of the nodes in a node that has so many levels left
abbrev pub inner : ℕ → Reader
inner zero = no_level
inner (suc levels) = node levels

-- the line with which a later part of a block begins, where it does or doesn't belong to the block
abbrev pub later_begun : Bool → Progress → LogicalLine → Result Progress YamlRefusal
later_begun belongs p line = begun p line >>= λ p. if belongs then Ok p else bad BadIndent p line.row line.row.indent

-- a node whose properties end at a place of a line: behind them on it, where a line of at least an indentation would go on with a scalar, or in the lines below
abbrev pub behind_properties : ℕ → Reader → Owned → Properties → Progress → ℕ → LogicalLine → ℕ → List LogicalLine → Result (Tree × Progress) YamlRefusal
behind_properties levels read owner found p indent line at more =
    if is_rest_blank true (text_at line.row at) then below read owner (carried p line.row found) p more
    else inline_alone levels indent owner.column found p line at more
