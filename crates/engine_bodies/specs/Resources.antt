-- Networks and volumes as bodies of the Docker Engine API v1.43, member by member.
use Rattle.std.specs.Prelude.{ℕ, true, List, [], ◌∷◌, Some, codes}
use Rattle.std.specs.Option.{option_map}
use Rattle.serde_json.specs.Data.{Data, boolean, string}
use Rattle.engine_types.specs.declared.NetworkSpec.{NetworkSpec}
use Rattle.engine_types.specs.declared.VolumeSpec.{VolumeSpec}
use Rattle.engine_bodies.specs.Containers.{endpoint_value}
use Rattle.engine_bodies.specs.Json.{Member, object_of, pairs}

-- a network, member by member; a second one of its name is to be refused
abbrev pub network_members : NetworkSpec → List Member
network_members spec =
    (codes "Attachable", option_map boolean spec.attachable)
    ∷ (codes "CheckDuplicate", Some (boolean true))
    ∷ (codes "Driver", option_map string spec.driver)
    ∷ (codes "EnableIPv6", option_map boolean spec.enable_ipv6)
    ∷ (codes "Internal", option_map boolean spec.internal)
    ∷ (codes "Labels", Some (pairs spec.labels))
    ∷ (codes "Name", Some (string spec.name))
    ∷ (codes "Options", option_map pairs spec.options) ∷ []

-- the body of `POST /networks/create`
abbrev pub network_value : NetworkSpec → Data
network_value spec = object_of (network_members spec)

-- a volume, member by member
abbrev pub volume_members : VolumeSpec → List Member
volume_members spec =
    (codes "Driver", option_map string spec.driver)
    ∷ (codes "DriverOpts", option_map pairs spec.driver_opts)
    ∷ (codes "Labels", Some (pairs spec.labels))
    ∷ (codes "Name", Some (string spec.name)) ∷ []

-- the body of `POST /volumes/create`
abbrev pub volume_value : VolumeSpec → Data
volume_value spec = object_of (volume_members spec)

-- a container that joins a network, and the names that it has there
abbrev pub connect_members : List ℕ → List (List ℕ) → List Member
connect_members container aliases =
    (codes "Container", Some (string container))
    ∷ (codes "EndpointConfig", Some (endpoint_value aliases)) ∷ []

-- the body of `POST /networks/{id}/connect`
abbrev pub connect_value : List ℕ → List (List ℕ) → Data
connect_value container aliases = object_of (connect_members container aliases)
