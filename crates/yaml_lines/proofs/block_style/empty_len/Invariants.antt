use Rattle.std.proofs.Common.{◌≡◌, ◌+◌, drop}
use Rattle.yaml_lines.specs.Block.{empty_len, lines_of_rows}
use Rattle.yaml_lines.proofs.block_style.empty_len.Given as goal

abbrev pub invariant-loop-at : goal.invariant-loop-at
invariant-loop-at l = l.at + empty_len (lines_of_rows (drop l.at l.rows)) ≡ empty_len (lines_of_rows l.rows)
