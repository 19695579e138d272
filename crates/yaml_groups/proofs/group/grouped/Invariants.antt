use Rattle.std.proofs.Common.{◌≡◌, ◌++◌, ◌<◌, ◌^◌, length}
use Rattle.yaml_groups.specs.Grouped.{grouped}
use Rattle.yaml_groups.specs.Parts.{led}
use Rattle.yaml_groups.proofs.group.grouped.Given as goal

abbrev pub invariant-loop-row : goal.invariant-loop-row
invariant-loop-row l = record { fits : length (led l.rest) < 2 ^ 64; is : l.lines ++ grouped l.owner 0 l.rest ≡ grouped 0 0 l.fn.rows }

abbrev pub decreases-loop-row : goal.decreases-loop-row
decreases-loop-row l = length l.rest
