use Rattle.std.proofs.Common.{◌≡◌, ◌+◌, length, drop}
use Rattle.yaml_groups.specs.Parts.{led}
use Rattle.yaml_groups.proofs.group.room_of.Given as goal

abbrev pub invariant-loop-row : goal.invariant-loop-row
invariant-loop-row l = l.room + length (led (drop l.row-index l.rows)) ≡ length (led l.rows)
