use Rattle.std.proofs.Common.{◌≡◌, take}
use Rattle.std.specs.List.{flat_map}
use Rattle.declared_slots.specs.Needs.{needs_on}
use Rattle.declared_slots.proofs.waits.needs.Given as goal

abbrev pub invariant-loop-dependency : goal.invariant-loop-dependency
invariant-loop-dependency l = l.needs ≡ flat_map (needs_on l.ranges) (take l.dependency-index l.dependencies)
