-- The networks that a service's containers are on (the Compose Specification, the services' networks).
use Rattle.std.specs.Prelude.{List, flat_map, position}
use Rattle.std.specs.Option.{option_map, option_to_list}
use Rattle.std.specs.Str.{bytes_eq}
use Rattle.container_specs.specs.Networks.{networks_by_name}
use Rattle.container_specs.specs.declared.networks.JoinedNetwork.{JoinedNetwork}
use Rattle.engine_types.specs.declared.declared.Attach.{Attach}
use Rattle.engine_types.specs.declared.resource.NetworkSpec.{NetworkSpec}
use Rattle.typed_project.specs.declared.project.Project.{Project}
use Rattle.typed_project.specs.declared.service.Service.{Service}

-- the attach to a network that a service joins, where one of this name is among those that are declared
abbrev pub attach_of : List NetworkSpec → JoinedNetwork → List Attach
attach_of networks joined =
    option_to_list
    (option_map (λ place. record { network = place; aliases = joined.aliases })
    (position (λ network. bytes_eq network.name joined.name) networks))

-- the networks that a service's containers are on, by their places among those that are declared: in byte order of the names,
-- with the names that the service has there
abbrev pub attaches_of : List NetworkSpec → Project → Service → List Attach
attaches_of networks project service = flat_map (attach_of networks) (networks_by_name project service)
