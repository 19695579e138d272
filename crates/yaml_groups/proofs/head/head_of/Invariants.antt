use Rattle.std.proofs.Common.{◌≡◌, ◌-◌, ◌≤◌, length, drop}
use Rattle.yaml_groups.specs.Grouped.{head_of}
use Rattle.yaml_groups.proofs.head.head_of.Given as goal

abbrev pub invariant-loop-owner : goal.invariant-loop-owner
invariant-loop-owner l = record { within : l.at ≤ length l.chars; is : head_of l.column l.at 0 (drop l.at l.chars) ≡ head_of l.owner 0 0 l.chars }

abbrev pub decreases-loop-owner : goal.decreases-loop-owner
decreases-loop-owner l = length l.chars - l.at
