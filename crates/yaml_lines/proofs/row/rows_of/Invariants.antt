use Rattle.std.proofs.Common.{◌≡◌, ◌++◌, drop, map}
use Rattle.yaml_lines.specs.Rows.{row_of}
use Rattle.yaml_lines.proofs.row.rows_of.Given as goal

abbrev pub invariant-loop-line : goal.invariant-loop-line
invariant-loop-line l = l.rows ++ map row_of (drop l.line-index l.line-items) ≡ map row_of l.line-items
