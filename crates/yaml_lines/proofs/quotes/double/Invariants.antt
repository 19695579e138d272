use Rattle.std.proofs.Common.{◌≡◌, ◌-◌, ◌≤◌, length, drop}
use Rattle.yaml_lines.specs.Quoted.{double_of}
use Rattle.yaml_lines.specs.Spelling.{spelled}
use Rattle.yaml_lines.proofs.QuoteSteps.{more}
use Rattle.yaml_lines.proofs.quotes.double.Given as goal

abbrev pub invariant-loop-at : goal.invariant-loop-at
invariant-loop-at l = record { within : l.at ≤ length l.chars; is : more l.text l.at (double_of 0 (drop l.at l.chars)) ≡ spelled (double_of 0 l.chars) }

abbrev pub decreases-loop-at : goal.decreases-loop-at
decreases-loop-at l = length l.chars - l.at
