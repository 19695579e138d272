use Rattle.std.proofs.Common.{◌≡◌, filter, map, take}
use Rattle.std.specs.Str.{bytes_eq}
use Rattle.container_specs.specs.Ports.{binding_of, port_key}
use Rattle.container_specs.proofs.ports.rows_at.Given as goal

abbrev pub invariant-loop-at : goal.invariant-loop-at
invariant-loop-at l = l.rows ≡ map binding_of (filter (λ port. bytes_eq (port_key port) l.key) (take l.at l.ports))
