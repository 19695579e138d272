use Rattle.std.proofs.Common.{◌≡◌, take}
use Rattle.std.specs.List.{sum_by}
use Rattle.declared_slots.specs.Needs.{bounded, range_of}
use Rattle.declared_slots.proofs.waits.needs_each.Given as goal

abbrev pub invariant-loop-dependency : goal.invariant-loop-dependency
invariant-loop-dependency l = l.count ≡ bounded (sum_by (λ dependency. (range_of l.ranges dependency.key).count) (take l.dependency-index l.dependencies))
