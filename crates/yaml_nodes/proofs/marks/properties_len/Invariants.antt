use Rattle.std.proofs.Common.{◌≡◌, ◌+◌, ◌-◌, ◌≤◌, length, drop}
use Rattle.yaml_nodes.specs.Marks.{properties_len}
use Rattle.yaml_nodes.proofs.marks.properties_len.Given as goal

abbrev pub invariant-loop-at : goal.invariant-loop-at
invariant-loop-at l = record { within : l.at ≤ length l.chars; is : l.at + properties_len 0 (drop l.at l.chars) ≡ properties_len 0 l.chars }

abbrev pub decreases-loop-at : goal.decreases-loop-at
decreases-loop-at l = length l.chars - l.at
