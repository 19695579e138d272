-- A node that stands on one line of a block.
use Rattle.std.specs.Prelude.{ℕ, ◌+◌, List, [], ◌∷◌, Bool, Result, Ok, nat_le, ◌==◌, ◌&&◌, ◌||◌, not, if◌then◌else◌}
use Rattle.yaml_groups.specs.declared.line.LogicalLine.{LogicalLine}
use Rattle.yaml_groups.specs.Grouped.{begins_block, begins_flow}
use Rattle.tree_base.specs.declared.tree.Tree.{Tree}
use Rattle.yaml_flow.specs.Flow.{flow}
use Rattle.yaml_lines.specs.declared.plain.Context.TheVariants.{Block}
use Rattle.yaml_lines.specs.declared.refusal.YamlFault.TheVariants.{BadIndent, Unsupported}
use Rattle.yaml_lines.specs.declared.refusal.YamlRefusal.{YamlRefusal}
use Rattle.yaml_lines.specs.declared.row.Row.{Row}
use Rattle.yaml_lines.specs.Rows.{text_at}
use Rattle.yaml_nodes.specs.declared.progress.Progress.{Progress}
use Rattle.yaml_nodes.specs.declared.properties.Properties.{Properties}
use Rattle.yaml_nodes.specs.Marks.{starts}
use Rattle.yaml_nodes.specs.Progress.{◌>>=◌, bad}
use Rattle.yaml_nodes.specs.Scalars.{Inline, block_scalar, line_end, word}
use Rattle.yaml_tree.specs.Parts.{begun}

-- the key or the dash of which a node is the value or the item: its row, its column there, and whether it is a key, whose value may be marked
pub record Owned : Type 0 where
  pub row : Row
  pub column : ℕ
  pub is_key : Bool

-- a flow collection, a block scalar, a scalar or an alias, which begins at a place of a line. The content of a block scalar is deeper than a column
abbrev pub inline : ℕ → ℕ → Properties → Progress → LogicalLine → ℕ → Result Inline YamlRefusal
inline levels column found p line at =
    let cs = text_at line.row at in
    if begins_flow cs then flow levels found p line.row at
    else (if begins_block cs then block_scalar levels found p line.row at column line.content
    else word Block levels found p line.row at)

-- a plain scalar or one in quotes stands there
abbrev pub is_scalar : List ℕ → Bool
is_scalar cs = not (begins_flow cs || (begins_block cs || starts 42 cs))

-- no line follows a node on one line: behind a scalar one of at least an indentation would go on with it, which isn't supported, and every other one is at a wrong column
abbrev pub alone : Bool → ℕ → Progress → List LogicalLine → Result Progress YamlRefusal
alone scalar indent p [] = Ok p
alone scalar indent p (line ∷ lines) =
    begun p line >>= λ p. bad (if scalar && nat_le indent line.row.indent then Unsupported else BadIndent) p line.row line.row.indent

-- a node that stands alone on the rest of a line: only a comment follows it there, and no line. A line of at least an indentation would go on with a scalar
abbrev pub inline_alone : ℕ → ℕ → ℕ → Properties → Progress → LogicalLine → ℕ → List LogicalLine → Result (Tree × Progress) YamlRefusal
inline_alone levels indent column found p line at more =
    inline levels column found p line at >>= λ got.
    line_end got.1 line.row got.0.1 >>= λ end.
    alone (is_scalar (text_at line.row at)) indent got.1 more >>= λ p. Ok (got.0.0, p)

-- the least indentation with which a line would go on with a scalar at a place of a line: that of the scalar's own line, else deeper than the owner
abbrev pub goes_on_at : Owned → LogicalLine → ℕ → ℕ
goes_on_at owner line at = if at == line.row.indent then at else owner.column + 1
