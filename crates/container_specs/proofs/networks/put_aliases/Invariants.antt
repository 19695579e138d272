use Rattle.std.proofs.Common.{◌≡◌, ◌++◌, filter, take}
use Rattle.std.specs.List.{flat_map}
use Rattle.std.specs.Str.{bytes_eq}
use Rattle.container_specs.proofs.networks.put_aliases.Given as goal

abbrev pub invariant-loop-network : goal.invariant-loop-network
invariant-loop-network l =
    l.aliases ≡ l.fn.aliases ++ flat_map (λ network. network.aliases) (filter (λ network. bytes_eq network.name l.name) (take l.network-index l.joined))
