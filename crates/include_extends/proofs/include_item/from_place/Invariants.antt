use Rattle.std.proofs.Common.{◌≡◌, ◌++◌, ◌-◌, drop, length}
use Rattle.include_extends.proofs.include_item.from_place.Given as goal

abbrev pub invariant-loop-at : goal.invariant-loop-at
invariant-loop-at l = l.rest ++ drop l.at l.files ≡ drop l.place l.files

abbrev pub decreases-loop-at : goal.decreases-loop-at
decreases-loop-at l = length l.files - l.at
