use Rattle.std.proofs.Common.{◌≡◌, drop}
use Rattle.yaml_lines.specs.Block.{content_indent, lines_of_rows}
use Rattle.yaml_lines.proofs.block_style.content_indent.Given as goal

abbrev pub invariant-loop-row : goal.invariant-loop-row
invariant-loop-row l = content_indent l.parent (lines_of_rows (drop l.row-index l.rows)) ≡ content_indent l.parent (lines_of_rows l.rows)
