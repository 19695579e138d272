use Rattle.std.proofs.Common.{◌≡◌, ◌-◌, ◌≤◌, length, drop}
use Rattle.yaml_lines.specs.Quoted.{single_of}
use Rattle.yaml_lines.specs.Spelling.{spelled}
use Rattle.yaml_lines.proofs.QuoteSteps.{more}
use Rattle.yaml_lines.proofs.quotes.single.Given as goal

abbrev pub invariant-loop-at : goal.invariant-loop-at
invariant-loop-at l = record { within : l.at ≤ length l.chars; is : more l.text l.at (single_of (drop l.at l.chars)) ≡ spelled (single_of l.chars) }

abbrev pub decreases-loop-at : goal.decreases-loop-at
decreases-loop-at l = length l.chars - l.at
