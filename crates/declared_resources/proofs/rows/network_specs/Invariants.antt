use Rattle.std.proofs.Common.{◌≡◌, map, take}
use Rattle.declared_resources.specs.Resources.{network_spec}
use Rattle.declared_resources.proofs.rows.network_specs.Given as goal

abbrev pub invariant-loop-network : goal.invariant-loop-network
invariant-loop-network l = l.specs ≡ map (network_spec l.project) (map (λ network. network.now) (take l.network-index l.networks))
