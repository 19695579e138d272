-- The ports of a container (Compose Specification, `expose`, `ports`).
use Rattle.std.specs.Prelude.{ℕ, List, [], ◌++◌, Option, Some, None, codes, filter, map, unwrap_or}
use Rattle.std.specs.Fmt.{decimal}
use Rattle.std.specs.Str.{bytes_eq}
use Rattle.attribute_types.specs.Lookups.{ports_at, texts_at}
use Rattle.attribute_types.specs.declared.attribute.Attribute.{Attribute}
use Rattle.engine_types.specs.declared.PortBinding.{PortBinding}
use Rattle.engine_types.specs.declared.PortBindings.{PortBindings}
use Rattle.short_forms.specs.Cuts.{cut_once}
use Rattle.short_forms.specs.declared.ports.Port.{Port}
use Rattle.container_specs.specs.Lists.{each_once, unless_empty}

-- the ports of a service
abbrev pub ports_in : List Attribute → List Port
ports_in attributes = unwrap_or (ports_at attributes (codes "ports")) []

-- a port of the container with its protocol
abbrev pub port_key : Port → List ℕ
port_key port = decimal port.target ++ codes "/" ++ port.protocol

-- a port that is told with its protocol, or without one, which is then `tcp`
abbrev pub with_protocol : List ℕ → Option (List ℕ × List ℕ) → List ℕ
with_protocol text None = text ++ codes "/tcp"
with_protocol text (Some parts) = text

-- a port that is told to other services
abbrev pub exposed_of : List ℕ → List ℕ
exposed_of text = with_protocol text (cut_once 47 text)

-- the ports that are told, and those that are bound, as one set
abbrev pub exposed_ports_of : List Attribute → Option (List (List ℕ))
exposed_ports_of attributes =
    unless_empty
    (each_once (map exposed_of (unwrap_or (texts_at attributes (codes "expose")) [])
    ++ map port_key (ports_in attributes)))

-- where a port is bound on the host: what isn't said of it isn't there
abbrev pub binding_of : Port → PortBinding
binding_of port = record { host_ip = port.host_ip; host_port = port.published }

-- where the ports of a key are bound, in their order
abbrev pub bindings_at : List Port → List ℕ → PortBindings
bindings_at ports key = record {
  key = key;
  bindings = map binding_of (filter (λ port. bytes_eq (port_key port) key) ports);
}

-- the ports that are bound, in byte order of their keys
abbrev pub port_bindings_of : List Port → Option (List PortBindings)
port_bindings_of ports = unless_empty (map (bindings_at ports) (each_once (map port_key ports)))
