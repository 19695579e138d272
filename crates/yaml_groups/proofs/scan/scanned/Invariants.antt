use Rattle.std.proofs.Common.{◌≡◌, ◌+◌, ◌-◌, ◌≤◌, length, drop}
use Rattle.yaml_groups.specs.Parts.{scanned}
use Rattle.yaml_groups.proofs.scan.scanned.Given as goal

abbrev pub invariant-loop-at : goal.invariant-loop-at
invariant-loop-at l =
    record { within : l.at ≤ length l.text; few : l.ends ≤ l.fn.from.ends + l.at; nested : l.brackets ≤ l.fn.from.brackets + l.at; is : scanned l.ends l.brackets 0 l.behind_white (drop l.at l.text) ≡ scanned l.fn.from.ends l.fn.from.brackets 0 l.white l.text }

abbrev pub decreases-loop-at : goal.decreases-loop-at
decreases-loop-at l = length l.text - l.at
