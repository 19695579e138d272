-- The networks and volumes that a project declares of the Engine (the Engine API's networks and volumes).
use Rattle.std.specs.Prelude.{ℕ, false, List, [], ◌∷◌, Option, Some, None, codes, map, unwrap_or}
use Rattle.std.specs.Option.{option_and_then}
use Rattle.attribute_types.specs.Lookups.{bool_at, pairs_at, text_at}
use Rattle.attribute_types.specs.declared.attribute.Attribute.{Attribute}
use Rattle.engine_types.specs.Labels.{network_label, project_label, volume_label}
use Rattle.engine_types.specs.declared.resource.NetworkSpec.{NetworkSpec}
use Rattle.engine_types.specs.declared.resource.VolumeSpec.{VolumeSpec}
use Rattle.named_items.specs.Names.{by_name, network_name, volume_name}
use Rattle.tree_base.specs.ByteOrder.{by_key}
use Rattle.tree_base.specs.Entries.{with_entry}
use Rattle.tree_base.specs.declared.place.Var.{Var}
use Rattle.typed_project.specs.declared.network.Network.{Network}
use Rattle.typed_project.specs.declared.project.Project.{Project}
use Rattle.typed_project.specs.declared.volume.Volume.{Volume}

-- a name with its value
abbrev pub variable_of : List ℕ × List ℕ → Var
variable_of entry = record { name = entry.0; value = entry.1 }

-- a pair, of which a null is the empty text
abbrev pub label_entry : List ℕ × Option (List ℕ) → List ℕ × List ℕ
label_entry pair = (pair.0, unwrap_or pair.1 [])

-- the labels of what a project declares, in byte order of their names: its own, with the name of the project, and its key under
-- the label of its kind, in place of those of the same name
abbrev pub declared_labels : List ℕ → List ℕ → List ℕ → List (List ℕ × Option (List ℕ)) → List Var
declared_labels project kind key own =
    by_key (λ variable. variable.name)
    (map variable_of (with_entry (with_entry (map label_entry own) project_label project) kind key))

-- the labels that attributes give
abbrev pub own_labels : List Attribute → List (List ℕ × Option (List ℕ))
own_labels attributes = unwrap_or (pairs_at attributes (codes "labels")) []

-- pairs that are not empty, as names with their values
abbrev pub any_variables : List (List ℕ × Option (List ℕ)) → Option (List Var)
any_variables [] = None
any_variables (pair ∷ pairs) = Some (map variable_of (map label_entry (pair ∷ pairs)))

-- the options of the driver, where there are any
abbrev pub driver_options : List Attribute → Option (List Var)
driver_options attributes = option_and_then any_variables (pairs_at attributes (codes "driver_opts"))

-- what the Engine is sent of a network of the project with this name: the members whose attributes are there
abbrev pub network_spec : List ℕ → Network → NetworkSpec
network_spec project network = record {
  name = network_name network;
  labels = declared_labels project network_label network.key (own_labels network.attributes);
  driver = text_at network.attributes (codes "driver");
  internal = bool_at network.attributes (codes "internal");
  attachable = bool_at network.attributes (codes "attachable");
  enable_ipv6 = bool_at network.attributes (codes "enable_ipv6");
  options = driver_options network.attributes;
  external = unwrap_or (bool_at network.attributes (codes "external")) false;
}

-- what the Engine is sent of a volume of the project with this name
abbrev pub volume_spec : List ℕ → Volume → VolumeSpec
volume_spec project volume = record {
  name = volume_name volume;
  labels = declared_labels project volume_label volume.key (own_labels volume.attributes);
  driver = text_at volume.attributes (codes "driver");
  driver_opts = driver_options volume.attributes;
  external = unwrap_or (bool_at volume.attributes (codes "external")) false;
}

-- the networks that a project declares: in byte order of the names, keys with one name one row, that of the first of them
abbrev pub networks_of : Project → List NetworkSpec
networks_of project = map (network_spec project.name) (by_name network_name project.networks)

-- the volumes that a project declares, likewise
abbrev pub volumes_of : Project → List VolumeSpec
volumes_of project = map (volume_spec project.name) (by_name volume_name project.volumes)
