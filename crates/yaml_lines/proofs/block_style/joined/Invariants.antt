use Rattle.std.proofs.Common.{◌≡◌, ◌≤◌, ◌++◌, drop, map, None}
use Rattle.std.specs.Str.{encode_utf8_all}
use Rattle.yaml_lines.specs.Block.{joined, trailing, lines_of_rows}
use Rattle.yaml_lines.proofs.block_style.joined.Given as goal

abbrev pub invariant-loop-row : goal.invariant-loop-row
invariant-loop-row l = record { text : l.text ++ encode_utf8_all (joined l.folded l.before l.empties (map (drop l.indent) (lines_of_rows (drop l.row-index l.rows)))) ≡ encode_utf8_all (joined l.folded None 0 (map (drop l.indent) (lines_of_rows l.rows))); empties : trailing l.empties (map (drop l.indent) (lines_of_rows (drop l.row-index l.rows))) ≡ trailing 0 (map (drop l.indent) (lines_of_rows l.rows)); few : l.empties ≤ l.row-index }
