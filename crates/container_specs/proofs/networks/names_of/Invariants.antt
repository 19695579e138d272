use Rattle.std.proofs.Common.{◌≡◌, map, take}
use Rattle.container_specs.proofs.networks.names_of.Given as goal

abbrev pub invariant-loop-network : goal.invariant-loop-network
invariant-loop-network l = l.names ≡ map (λ network. network.name) (take l.network-index l.networks)
