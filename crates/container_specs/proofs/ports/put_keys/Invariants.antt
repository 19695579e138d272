use Rattle.std.proofs.Common.{◌≡◌, ◌++◌, map, take}
use Rattle.container_specs.specs.Ports.{port_key}
use Rattle.container_specs.proofs.ports.put_keys.Given as goal

abbrev pub invariant-loop-port : goal.invariant-loop-port
invariant-loop-port l = l.keys ≡ l.fn.keys ++ map port_key (take l.port-index l.ports)
