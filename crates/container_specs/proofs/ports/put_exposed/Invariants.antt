use Rattle.std.proofs.Common.{◌≡◌, ◌++◌, map, take}
use Rattle.container_specs.specs.Ports.{exposed_of}
use Rattle.container_specs.proofs.ports.put_exposed.Given as goal

abbrev pub invariant-loop-text : goal.invariant-loop-text
invariant-loop-text l = l.ports ≡ l.fn.ports ++ map exposed_of (take l.text-index l.texts)
