use Rattle.std.proofs.Common.{◌≡◌, ◌+◌, drop}
use Rattle.yaml_lines.specs.Block.{content_len, lines_of_rows}
use Rattle.yaml_lines.proofs.block_style.content_len.Given as goal

abbrev pub invariant-loop-at : goal.invariant-loop-at
invariant-loop-at l = l.at + content_len l.indent (lines_of_rows (drop l.at l.rows)) ≡ content_len l.indent (lines_of_rows l.rows)
