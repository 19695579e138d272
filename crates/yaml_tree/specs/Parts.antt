-- How a block is cut: into parts, at the lines that aren't deeper than it (YAML 1.2, chapter 8.2).
use Rattle.std.specs.Prelude.{ℕ, ◌+◌, List, [], ◌∷◌, Bool, true, Option, Some, None, Result, Ok, length, nat_le, ◌==◌, ◌&&◌, ◌||◌, not, if◌then◌else◌}
use Rattle.yaml_groups.specs.declared.line.LogicalLine.{LogicalLine}
use Rattle.yaml_lines.specs.Blanks.{is_rest_blank, tab_indent}
use Rattle.yaml_lines.specs.declared.refusal.YamlFault.TheVariants.{BadIndent, TabIndent, Unsupported}
use Rattle.yaml_lines.specs.declared.refusal.YamlRefusal.{YamlRefusal}
use Rattle.yaml_lines.specs.Rows.{text_at}
use Rattle.yaml_nodes.specs.declared.progress.Progress.{Progress}
use Rattle.yaml_nodes.specs.Marks.{is_item, is_left_out, is_property, properties_len}
use Rattle.yaml_nodes.specs.Progress.{◌>>=◌, bad}

-- a line without a tab in its indentation, which is one of those that are left out or isn't
abbrev pub untabbed : Progress → LogicalLine → Option ℕ → Result Progress YamlRefusal
untabbed p line (Some tab) = bad TabIndent p line.row tab
untabbed p line None = if is_left_out line.row.chars then bad Unsupported p line.row line.row.indent else Ok p

-- a line's own rules, which come before its parts: no tab in its indentation, and not one that is left out
abbrev pub begun : Progress → LogicalLine → Result Progress YamlRefusal
begun p line = untabbed p line (tab_indent line.row.chars)

-- the indentation of the first line
abbrev pub first_indent : List LogicalLine → ℕ
first_indent [] = 0
first_indent (line ∷ lines) = line.row.indent

-- the lines before the first that begins a part, and the parts, each with the lines up to the next
abbrev pub parted : (LogicalLine → Bool) → List LogicalLine → List LogicalLine × List (LogicalLine × List LogicalLine)
parted begins [] = ([], [])
parted begins (line ∷ lines) =
    let rest = parted begins lines in if begins line then ([], (line, rest.0) ∷ rest.1) else (line ∷ rest.0, rest.1)

-- a reader of one part of a block, beside what was read before
abbrev pub PartReader : Type 0 → Type 0
PartReader A = A × Progress → LogicalLine → List LogicalLine → Result (A × Progress) YamlRefusal

-- the later parts of a block: each begins where the block does, else its indentation is bad
abbrev pub later_parts : {A : Type 0} → (LogicalLine → Bool) → PartReader A → A × Progress → List (LogicalLine × List LogicalLine) → Result (A × Progress) YamlRefusal
later_parts belongs read done [] = Ok done
later_parts belongs read done ((line, more) ∷ parts) =
    begun done.1 line >>= λ p.
    if belongs line then (read done line more >>= λ done. later_parts belongs read done parts) else bad BadIndent p line.row line.row.indent

-- a block is cut into parts: the first begins with its first line, and each later one with a line that isn't deeper
abbrev pub block : {A : Type 0} → (LogicalLine → Bool) → (LogicalLine → Bool) → PartReader A → A × Progress → LogicalLine → List LogicalLine → Result (A × Progress) YamlRefusal
block begins belongs read none line more =
    let parts = parted begins more in
    read none line parts.0 >>= λ done. later_parts belongs read done parts.1

-- a line with an item at a column
abbrev pub is_item_at : ℕ → LogicalLine → Bool
is_item_at column line = (line.row.indent == column) && is_item (text_at line.row column)

-- in a sequence at a column a line that isn't deeper begins an item
abbrev pub begins_item : ℕ → LogicalLine → Bool
begins_item column line = nat_le line.row.indent column

-- in a mapping at a column a line that isn't deeper begins an entry, but for an item at that column, which belongs to the entry before it
abbrev pub begins_entry : ℕ → LogicalLine → Bool
begins_entry column line = nat_le line.row.indent column && not (is_item_at column line)

-- a line that holds properties alone
abbrev pub is_bare : LogicalLine → Bool
is_bare line =
    let cs = text_at line.row line.row.indent in
    is_property cs && is_rest_blank true (text_at line.row (line.row.indent + properties_len 0 cs))

-- how many lines of an entry come before an item at its column that comes too late, since a value stands already: on the key's line, or in the lines before the item. Properties are no value
abbrev pub value_len : ℕ → Bool → List LogicalLine → ℕ
value_len column stands [] = 0
value_len column stands (line ∷ more) =
    if is_item_at column line then (if stands then 0 else 1 + length more)
    else 1 + value_len column (stands || not (is_bare line)) more

-- a line at the column of a mapping
abbrev pub is_entry_at : ℕ → LogicalLine → Bool
is_entry_at column line = line.row.indent == column
