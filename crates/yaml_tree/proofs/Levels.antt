-- A node, one level opened.
use Rattle.std.proofs.Common.{◌≡◌, ◌∙◌, ℕ, zero, suc, ◌+◌, ◌-◌, ◌<◌, List, ◌∷◌, true, Result, if◌then◌else◌, refl, sym, arith}
use Rattle.yaml_groups.specs.declared.line.LogicalLine.{LogicalLine}
use Rattle.tree_base.specs.declared.tree.Tree.{Tree}
use Rattle.yaml_lines.specs.Blanks.{is_rest_blank}
use Rattle.yaml_lines.specs.declared.refusal.YamlRefusal.{YamlRefusal}
use Rattle.yaml_lines.specs.Rows.{text_at}
use Rattle.yaml_nodes.specs.declared.progress.Progress.{Progress}
use Rattle.yaml_nodes.specs.declared.properties.Properties.{Properties}
use Rattle.yaml_nodes.specs.Marks.{properties_len}
use Rattle.yaml_nodes.specs.Progress.{◌>>=◌}
use Rattle.yaml_nodes.specs.Properties.{carried, properties_from}
use Rattle.yaml_tree.specs.Blocks.{block_or_inline, has_own_properties, node, node_with}
use Rattle.yaml_tree.specs.Inline.{Owned, goes_on_at, inline_alone}
use Rattle.yaml_tree.specs.Parts.{begun, first_indent}
use Rattle.yaml_tree.specs.Steps.{behind_properties, inner}

-- a node's reader is that of its lines, by the reader of the nodes in it
pub opened : (levels : ℕ) → node levels ≡ node_with levels (levels - 1) (inner levels)
opened zero = refl
opened (suc levels) = let p : suc levels - 1 ≡ levels = omega arith in rw p refl

-- where a level is left, the nodes in a node have one less
pub inner_is : (levels : ℕ) → 0 < levels → inner levels ≡ node (levels - 1)
inner_is zero h = absurd (omega arith)
inner_is (suc levels) h = let p : suc levels - 1 ≡ levels = omega arith in rw p refl

-- a node whose first line may begin it
abbrev pub node_begun : ℕ → Owned → Properties → ℕ → LogicalLine → List LogicalLine → Progress → Result (Tree × Progress) YamlRefusal
node_begun levels owner found at line more p =
    if has_own_properties (text_at line.row at)
    then (properties_from owner.is_key p line.row at found 0 (text_at line.row at) >>= λ found.
    behind_properties levels (node levels) owner found p (goes_on_at owner line at) line (at + properties_len 0 (text_at line.row at)) more)
    else block_or_inline levels (levels - 1) (inner levels) owner found p at line more

-- a node of lines, by what its first line begins with
pub node_is : (levels : ℕ) (owner : Owned) (found : Properties) (p : Progress) (at : ℕ) (line : LogicalLine) (more : List LogicalLine)
    → node levels owner found p at (line ∷ more) ≡ (begun p line >>= node_begun levels owner found at line more)
node_is levels owner found p at line more =
    (λ i. opened levels i owner found p at (line ∷ more))
    ∙ (λ i. begun p line >>= λ p.
    if has_own_properties (text_at line.row at)
    then (properties_from owner.is_key p line.row at found 0 (text_at line.row at) >>= λ found.
    if is_rest_blank true (text_at line.row (at + properties_len 0 (text_at line.row at)))
    then sym (opened levels) i owner (carried p line.row found) p (first_indent more) more
    else inline_alone levels (goes_on_at owner line at) owner.column found p line (at + properties_len 0 (text_at line.row at)) more)
    else block_or_inline levels (levels - 1) (inner levels) owner found p at line more)
