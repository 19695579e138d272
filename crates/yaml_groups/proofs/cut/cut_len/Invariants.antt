use Rattle.std.proofs.Common.{◌≡◌, ◌+◌, ◌-◌, ◌≤◌, length, drop, false}
use Rattle.yaml_groups.specs.Cuts.{cut_len}
use Rattle.yaml_groups.proofs.cut.cut_len.Given as goal

abbrev pub invariant-loop-at : goal.invariant-loop-at
invariant-loop-at l = record { within : l.at ≤ length l.text; few : l.brackets ≤ l.at; is : l.at + cut_len l.brackets 0 l.white (drop l.at l.text) ≡ cut_len 0 0 false l.text }

abbrev pub decreases-loop-at : goal.decreases-loop-at
decreases-loop-at l = length l.text - l.at
