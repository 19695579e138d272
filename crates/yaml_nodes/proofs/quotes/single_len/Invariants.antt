use Rattle.std.proofs.Common.{◌≡◌, ◌-◌, ◌≤◌, length, drop}
use Rattle.yaml_lines.specs.Quoted.{single_of}
use Rattle.yaml_nodes.specs.Marks.{counted}
use Rattle.yaml_nodes.proofs.LenSteps.{farther}
use Rattle.yaml_nodes.proofs.quotes.single_len.Given as goal

abbrev pub invariant-loop-at : goal.invariant-loop-at
invariant-loop-at l = record { within : l.at ≤ length l.chars; is : farther l.at (single_of (drop l.at l.chars)) ≡ counted (single_of l.chars) }

abbrev pub decreases-loop-at : goal.decreases-loop-at
decreases-loop-at l = length l.chars - l.at
