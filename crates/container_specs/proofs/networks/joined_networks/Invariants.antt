use Rattle.std.proofs.Common.{◌≡◌, take}
use Rattle.std.specs.List.{flat_map}
use Rattle.std.specs.Option.{option_to_list}
use Rattle.container_specs.specs.Networks.{joined_as}
use Rattle.container_specs.proofs.networks.joined_networks.Given as goal

abbrev pub invariant-loop-joined : goal.invariant-loop-joined
invariant-loop-joined l = l.networks ≡ flat_map (λ joined. option_to_list (joined_as l.project joined)) (take l.joined-index l.uses)
