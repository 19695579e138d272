use Rattle.std.proofs.Common.{◌≡◌, map, take}
use Rattle.container_specs.specs.Host.{host_of}
use Rattle.container_specs.proofs.host.hosts_of.Given as goal

abbrev pub invariant-loop-at : goal.invariant-loop-at
invariant-loop-at l = l.hosts ≡ map host_of (take l.at l.pairs)
