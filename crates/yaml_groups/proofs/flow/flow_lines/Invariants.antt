use Rattle.std.proofs.Common.{◌≡◌, ◌+◌, ◌<◌, ◌^◌, ◌++◌, length, drop, false}
use Rattle.yaml_groups.specs.Parts.{led, scanned}
use Rattle.yaml_groups.proofs.ScanSteps.{behind}
use Rattle.yaml_groups.proofs.flow.flow_lines.Given as goal

abbrev pub invariant-loop-row : goal.invariant-loop-row
invariant-loop-row l =
    record { few : l.scan.ends + length (led (drop l.row-index l.rows)) < 2 ^ 64; nested : l.scan.brackets + length (led (drop l.row-index l.rows)) < 2 ^ 64; is : behind l.scan (led (drop l.row-index l.rows)) ≡ scanned 0 0 0 false (l.first ++ led l.rows) }
