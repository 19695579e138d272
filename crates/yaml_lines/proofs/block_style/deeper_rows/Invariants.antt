use Rattle.std.proofs.Common.{◌≡◌, ◌≤◌, ◌++◌, length, drop, map}
use Rattle.yaml_lines.specs.Block.{deeper}
use Rattle.yaml_lines.specs.Rows.{row_of}
use Rattle.yaml_lines.proofs.block_style.deeper_rows.Given as goal

abbrev pub invariant-loop-line : goal.invariant-loop-line
invariant-loop-line l = record { is : l.rows ++ deeper l.parent (map row_of (drop l.line-index l.lines)) ≡ deeper l.parent (map row_of l.lines); few : length l.rows ≤ l.line-index }
