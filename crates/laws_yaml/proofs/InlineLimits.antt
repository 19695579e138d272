-- A node that stands on one line of a block is within the limits.
use Rattle.std.proofs.Common.{◌≡◌, ℕ, List, [], ◌∷◌, Bool, refl}
use Rattle.yaml_groups.specs.declared.line.LogicalLine.{LogicalLine}
use Rattle.yaml_groups.specs.Grouped.{begins_block, begins_flow}
use Rattle.yaml_lines.specs.declared.plain.Context.TheVariants.{Block}
use Rattle.yaml_lines.specs.Rows.{text_at}
use Rattle.yaml_nodes.specs.declared.progress.Progress.{Progress}
use Rattle.yaml_nodes.specs.declared.properties.Properties.{Properties}
use Rattle.yaml_nodes.specs.Scalars.{line_end}
use Rattle.laws_yaml.proofs.Chains.{Yields, given, refused, either, chained, followed, unchanged}
use Rattle.laws_yaml.proofs.FlowLimits.{flow_grows}
use Rattle.laws_yaml.proofs.Limits.{Grows, GrowsInline}
use Rattle.laws_yaml.proofs.NodeLimits.{block_scalar_grows, word_grows}
use Rattle.yaml_tree.specs.Inline.{alone, inline, inline_alone, is_scalar}
use Rattle.yaml_tree.specs.Parts.{begun}

inline_grows : (levels column : ℕ) (found : Properties) (p : Progress) (line : LogicalLine) (at : ℕ) → Yields (GrowsInline levels p) (inline levels column found p line at)
inline_grows levels column found p line at =
    let cs = text_at line.row at in
    either (begins_flow cs) _ _ (flow_grows levels found p line.row at)
    (either (begins_block cs) _ _ (block_scalar_grows levels found p line.row at column line.content) (word_grows Block levels found p line.row at))

pub alone_same : (scalar : Bool) (indent : ℕ) (p : Progress) (lines : List LogicalLine) → Yields (λ q. p ≡ q) (alone scalar indent p lines)
alone_same scalar indent p [] = given p refl
alone_same scalar indent p (line ∷ lines) = followed (begun p line) _ (λ q. refused _)

pub inline_alone_grows : (levels indent column : ℕ) (found : Properties) (p : Progress) (line : LogicalLine) (at : ℕ) (more : List LogicalLine)
    → Yields (Grows levels p) (inline_alone levels indent column found p line at more)
inline_alone_grows levels indent column found p line at more =
    chained _ _ (inline_grows levels column found p line at)
    (λ got h. followed (line_end got.1 line.row got.0.1) _
    (λ end. unchanged got.1 _ _ (alone_same (is_scalar (text_at line.row at)) indent got.1 more) (given _ h)))
