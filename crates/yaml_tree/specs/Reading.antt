-- What the lines of a text spell.
use Rattle.std.specs.Prelude.{ℕ, List, [], ◌∷◌, Bool, false, Result, Ok, map, drop, codes, ◌&&◌, if◌then◌else◌}
use Rattle.tree_base.specs.Limits.{most_levels}
use Rattle.yaml_groups.specs.declared.line.LogicalLine.{LogicalLine}
use Rattle.yaml_groups.specs.Grouped.{grouped}
use Rattle.tree_base.specs.declared.tree.Tree.{Tree}
use Rattle.yaml_lines.specs.Blanks.{is_rest_blank}
use Rattle.yaml_lines.specs.declared.lines.Lines.{Lines}
use Rattle.yaml_lines.specs.declared.refusal.YamlRefusal.{YamlRefusal}
use Rattle.yaml_lines.specs.Rows.{row_of}
use Rattle.yaml_nodes.specs.Marks.{starts_with}
use Rattle.yaml_nodes.specs.Progress.{◌>>=◌, at_start}
use Rattle.yaml_nodes.specs.Properties.{no_properties}
use Rattle.yaml_tree.specs.Blocks.{below, node}
use Rattle.yaml_tree.specs.Inline.{Owned}

-- the line `---` with a comment at most
abbrev pub is_start : List ℕ → Bool
is_start cs = starts_with (codes "---") cs && is_rest_blank false (drop 3 cs)

-- the lines behind a leading `---`
abbrev pub behind_start : List LogicalLine → List LogicalLine
behind_start [] = []
behind_start (line ∷ lines) = if is_start line.row.chars then lines else line ∷ lines

-- the root belongs to no key and no dash: its content may begin at the first column, and that of a block scalar is deeper than that
abbrev pub no_owner : Owned
no_owner = record { row = record { number = 1; indent = 0; chars = [] }; column = 0; is_key = false }

-- the tree of the lines that are read, with so many levels for it
abbrev pub document : ℕ → ℕ → List LogicalLine → Result Tree YamlRefusal
document levels file lines = below (node levels) no_owner no_properties (at_start file) (behind_start lines) >>= λ got. Ok got.0

-- what lines spell: a tree of at most 64 levels, or the first refusal
abbrev pub reading : Lines → Result Tree YamlRefusal
reading lines = document most_levels lines.file (grouped 0 0 (map row_of lines.lines))
