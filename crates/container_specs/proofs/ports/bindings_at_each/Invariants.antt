use Rattle.std.proofs.Common.{◌≡◌, map, take}
use Rattle.container_specs.specs.Ports.{bindings_at}
use Rattle.container_specs.proofs.ports.bindings_at_each.Given as goal

abbrev pub invariant-loop-key : goal.invariant-loop-key
invariant-loop-key l = l.bindings ≡ map (bindings_at l.ports) (take l.key-index l.distinct)
