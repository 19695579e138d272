-- That a body tells the description that it is made of.
use Rattle.std.specs.Prelude.{◌≡◌, ℕ, false, List, Option, Some, None, ⊤}
use Rattle.engine_types.specs.declared.ContainerSpec.{ContainerSpec}
use Rattle.engine_types.specs.declared.NetworkSpec.{NetworkSpec}
use Rattle.engine_types.specs.declared.VolumeSpec.{VolumeSpec}
use Rattle.engine_bodies.specs.Containers.{container_value}
use Rattle.engine_bodies.specs.Resources.{connect_value, network_value, volume_value}
use Rattle.tree_base.specs.ByteOrder.{IsAscending, is_before}
use Rattle.tree_base.specs.declared.place.Var.{Var}

-- things stand in byte order of their keys, each key once
abbrev pub InOrder : {X : Type 0} → (X → List ℕ) → List X → Type 0
InOrder key items = IsAscending (λ x y. is_before (key x) (key y)) items

-- a fact of what there may be
abbrev pub IfAny : {X : Type 0} → (X → Type 0) → Option X → Type 0
IfAny P None = ⊤
IfAny P (Some x) = P x

-- pairs stand in byte order of their names
abbrev pub PairsInOrder : List Var → Type 0
PairsInOrder pairs = InOrder (λ pair. pair.name) pairs

-- names stand in byte order
abbrev pub NamesInOrder : List (List ℕ) → Type 0
NamesInOrder names = InOrder (λ name. name) names

-- the mappings and sets of a container stand in byte order
pub record IsOrdered (spec : ContainerSpec) : Type 0 where
  pub labels : PairsInOrder spec.labels
  pub sysctls : IfAny PairsInOrder spec.sysctls
  pub tmpfs : IfAny PairsInOrder spec.tmpfs
  pub log_options : IfAny (λ logging. IfAny PairsInOrder logging.config) spec.log_config
  pub exposed_ports : IfAny NamesInOrder spec.exposed_ports
  pub volumes : IfAny NamesInOrder spec.volumes
  pub port_bindings : IfAny (InOrder (λ port. port.key)) spec.port_bindings
  pub endpoints : IfAny (InOrder (λ endpoint. endpoint.key)) spec.endpoints_config

-- two containers with one body are described alike, but for the platform, which goes into the query
abbrev pub BodiesTellContainers : Type 0
BodiesTellContainers =
    (a b : ContainerSpec) → IsOrdered a → IsOrdered b → container_value a ≡ container_value b
    → record a { platform = None } ≡ record b { platform = None }

-- and two networks, but for whether the project makes them
abbrev pub BodiesTellNetworks : Type 0
BodiesTellNetworks =
    (a b : NetworkSpec) → PairsInOrder a.labels → PairsInOrder b.labels → IfAny PairsInOrder a.options
    → IfAny PairsInOrder b.options → network_value a ≡ network_value b
    → record a { external = false } ≡ record b { external = false }

-- and two volumes
abbrev pub BodiesTellVolumes : Type 0
BodiesTellVolumes =
    (a b : VolumeSpec) → PairsInOrder a.labels → PairsInOrder b.labels → IfAny PairsInOrder a.driver_opts
    → IfAny PairsInOrder b.driver_opts → volume_value a ≡ volume_value b
    → record a { external = false } ≡ record b { external = false }

-- and what joins a network
abbrev pub BodiesTellConnections : Type 0
BodiesTellConnections =
    (container other : List ℕ) (aliases others : List (List ℕ))
    → connect_value container aliases ≡ connect_value other others
    → (container ≡ other) × (aliases ≡ others)
