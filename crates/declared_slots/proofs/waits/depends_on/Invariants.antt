use Rattle.std.proofs.Common.{◌≡◌, map, take}
use Rattle.declared_slots.proofs.waits.depends_on.Given as goal

abbrev pub invariant-loop-dependency : goal.invariant-loop-dependency
invariant-loop-dependency l = l.keys ≡ map (λ dependency. dependency.key) (take l.dependency-index l.dependencies)
