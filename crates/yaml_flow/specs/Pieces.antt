-- Words for the pieces of a flow collection, which private contracts cite.
use Rattle.std.specs.Prelude.{ℕ, ◌+◌, List, [], ◌∷◌, Bool, true, false, Result, Ok, not, if◌then◌else◌}
use Rattle.yaml_groups.specs.Cuts.{cut_len, is_cut}
use Rattle.yaml_flow.specs.declared.piece.Piece.{Piece}
use Rattle.yaml_flow.specs.Gaps.{next_place}
use Rattle.yaml_lines.specs.declared.refusal.YamlFault.TheVariants.{BadFlow}
use Rattle.yaml_lines.specs.declared.refusal.YamlRefusal.{YamlRefusal}
use Rattle.yaml_lines.specs.declared.row.Row.{Row}
use Rattle.yaml_lines.specs.Rows.{text_at}
use Rattle.yaml_nodes.specs.declared.progress.Progress.{Progress}
use Rattle.yaml_nodes.specs.Marks.{starts}
use Rattle.yaml_nodes.specs.Progress.{◌>>=◌, bad}

-- where a piece ends that begins at a place: at the next cut, else with the row
abbrev pub stop_from : Row → ℕ → ℕ
stop_from row start = start + cut_len 0 0 false (text_at row start)

-- the piece that begins at a place, of a collection whose bracket opens at another
abbrev pub piece_at : Row → ℕ → ℕ → Piece
piece_at row bracket start = record { bracket = bracket; stop = stop_from row start }

-- a piece behind which none follows
abbrev pub is_last_of : Row → Piece → Bool
is_last_of row piece = not (starts 44 (text_at row piece.stop))

-- a collection is cut before these characters, or there are none
abbrev pub is_end : List ℕ → Bool
is_end [] = true
is_end (c ∷ cs) = is_cut 0 c

-- a piece of a collection ends at a place of a row, if it hasn't ended before
abbrev pub is_stop : Row → ℕ → Bool
is_stop row at = is_end (text_at row at)

-- the place at which a piece ends behind a node that ends before a place; else what stands behind the node is refused
abbrev pub next_stop : Progress → Row → ℕ → ℕ → Result ℕ YamlRefusal
next_stop p row bracket end = next_place p row false end >>= λ at. if is_stop row at then Ok at else bad BadFlow p row bracket
