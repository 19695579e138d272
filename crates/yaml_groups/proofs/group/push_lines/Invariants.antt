use Rattle.std.proofs.Common.{◌≡◌, ◌++◌, drop}
use Rattle.yaml_groups.specs.Parts.{led}
use Rattle.yaml_groups.proofs.group.push_lines.Given as goal

abbrev pub invariant-loop-row : goal.invariant-loop-row
invariant-loop-row l = l.chars ++ led (drop l.row-index l.rows) ≡ l.initial.chars ++ led l.rows
