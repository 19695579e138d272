use Rattle.std.proofs.Common.{◌≡◌, map, take}
use Rattle.container_specs.specs.Networks.{aliases_on}
use Rattle.container_specs.proofs.networks.under_names.Given as goal

abbrev pub invariant-loop-name : goal.invariant-loop-name
invariant-loop-name l = l.networks ≡ map (λ name. record { name = name; aliases = aliases_on l.service l.joined name }) (take l.name-index l.names)
