-- White space, comments and line ends between the parts of a flow collection.
use Rattle.std.specs.Prelude.{ℕ, ◌+◌, List, [], ◌∷◌, Bool, true, false, Result, Ok, ◌==◌, ◌&&◌, ◌||◌, if◌then◌else◌}
use Rattle.yaml_lines.specs.Blanks.{is_white, spaces}
use Rattle.yaml_lines.specs.declared.refusal.YamlFault.TheVariants.{Unsupported}
use Rattle.yaml_lines.specs.declared.refusal.YamlRefusal.{YamlRefusal}
use Rattle.yaml_lines.specs.declared.row.Row.{Row}
use Rattle.yaml_lines.specs.Rows.{text_at}
use Rattle.yaml_nodes.specs.declared.progress.Progress.{Progress}
use Rattle.yaml_nodes.specs.Marks.{is_left_out}
use Rattle.yaml_nodes.specs.Progress.{bad}

-- the place behind white space, comments and line ends; a line that is left out is refused. `comment` and `white` say whether this is in a comment, and behind white space
abbrev pub past_gap : Progress → Row → ℕ → Bool → Bool → List ℕ → Result ℕ YamlRefusal
past_gap p row at comment white [] = Ok at
past_gap p row at comment white (c ∷ cs) =
    if c == 10 then (if is_left_out cs then bad Unsupported p row (at + 1 + spaces cs) else past_gap p row (at + 1) false true cs)
    else (if comment || is_white c then past_gap p row (at + 1) comment true cs
    else (if (c == 35) && white then past_gap p row (at + 1) true true cs else Ok at))

-- the next place at which something stands, from a place on; `white` says whether white space precedes it
abbrev pub next_place : Progress → Row → Bool → ℕ → Result ℕ YamlRefusal
next_place p row white at = past_gap p row at false white (text_at row at)
