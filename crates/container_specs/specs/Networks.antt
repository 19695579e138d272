-- The networks of a service by their names, and how its container is on the first of them (Compose Specification, `networks`).
use Rattle.std.specs.Prelude.{ℕ, List, [], ◌∷◌, Option, Some, None, codes, filter, find, flat_map, map, unwrap_or}
use Rattle.std.specs.Option.{option_and_then, option_map, option_or, option_to_list}
use Rattle.std.specs.Str.{bytes_eq}
use Rattle.attribute_types.specs.Lookups.{networks_at, text_at}
use Rattle.attribute_types.specs.declared.rows.NetworkUse.{NetworkUse}
use Rattle.engine_types.specs.declared.Endpoint.{Endpoint}
use Rattle.typed_project.specs.declared.project.Project.{Project}
use Rattle.typed_project.specs.declared.service.Service.{Service}
use Rattle.container_specs.specs.Lists.{each_once}
use Rattle.container_specs.specs.declared.networks.JoinedNetwork.{JoinedNetwork}

-- the name of the network with a key, where the project has it
abbrev pub network_name : Project → List ℕ → Option (List ℕ)
network_name project key =
    option_and_then (λ network. text_at network.attributes (codes "name"))
    (find (λ network. bytes_eq network.key key) project.networks)

-- a network that a service joins by its key, by its name and with the aliases that are given there
abbrev pub joined_as : Project → NetworkUse → Option JoinedNetwork
joined_as project joined =
    option_map (λ name. record { name = name; aliases = joined.aliases }) (network_name project joined.key)

-- the networks that a service joins, in the order of its keys; one that the project doesn't have isn't there
abbrev pub joined_networks : Project → Service → List JoinedNetwork
joined_networks project service =
    flat_map (λ joined. option_to_list (joined_as project joined))
    (unwrap_or (networks_at service.attributes (codes "networks")) [])

-- the aliases of a service on the network of a name: its key, and those of each of its keys of that name
abbrev pub aliases_on : Service → List JoinedNetwork → List ℕ → List (List ℕ)
aliases_on service joined name =
    each_once (service.key ∷
    flat_map (λ network. network.aliases) (filter (λ network. bytes_eq network.name name) joined))

-- the networks of a service in byte order of their names, each once, with its aliases there in byte order
abbrev pub networks_by_name : Project → Service → List JoinedNetwork
networks_by_name project service =
    let joined = joined_networks project service in
    map (λ name. record { name = name; aliases = aliases_on service joined name })
    (each_once (map (λ network. network.name) joined))

-- the network that a container is made on: the first by name
abbrev pub first_network : List JoinedNetwork → Option JoinedNetwork
first_network [] = None
first_network (network ∷ networks) = Some network

-- the mode: the name of that network, or else the word of the service
abbrev pub network_mode_of : List JoinedNetwork → Service → Option (List ℕ)
network_mode_of networks service =
    option_or (option_map (λ network. network.name) (first_network networks))
    (text_at service.attributes (codes "network_mode"))

-- the endpoint there; other networks are connected once the container is made
abbrev pub endpoints_of : List JoinedNetwork → Option (List Endpoint)
endpoints_of networks =
    option_map (λ network. record { key = network.name; aliases = network.aliases } ∷ []) (first_network networks)
