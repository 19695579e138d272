use Rattle.std.proofs.Common.{◌≡◌, ◌++◌, map, take}
use Rattle.project_meaning.proofs.keys.put_network_keys.Given as goal

abbrev pub invariant-loop-network : goal.invariant-loop-network
invariant-loop-network l = l.keys.items ≡ l.fn.keys.items ++ map (λ network. network.key) (take l.network-index l.networks)
