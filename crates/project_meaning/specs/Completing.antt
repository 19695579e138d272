-- A project whose parts are right by themselves, as a whole: names that are used and not there, circles, what goes without saying, and
-- what nobody uses.
use Rattle.std.specs.Prelude.{ℕ, ◌++◌, ◌||◌, ◌&&◌, Bool, true, false, not, if◌then◌else◌, List, [], ◌∷◌, Option, Some, None, Result, Ok, Err, codes, filter, find, flat_map, is_some, map, unwrap_or}
use Rattle.std.specs.List.{list_any}
use Rattle.std.specs.Option.{option_map, option_map_or, option_or}
use Rattle.std.specs.Str.{bytes_eq}
use Rattle.short_forms.specs.declared.mounts.Mount.{Mount}
use Rattle.short_forms.specs.declared.mounts.MountKind.{MountKind}
use Rattle.tree_base.specs.Answers.{◌>>=◌}
use Rattle.tree_base.specs.ByteOrder.{by_key, placed}
use Rattle.attribute_types.specs.Lookups.{dependencies_at, files_at, mounts_at, networks_at, text_at}
use Rattle.attribute_types.specs.declared.attribute.Attribute.{Attribute}
use Rattle.attribute_types.specs.declared.attribute.Value.{Value}
use Rattle.attribute_types.specs.declared.rows.Dependency.{Dependency}
use Rattle.attribute_types.specs.declared.rows.FileUse.{FileUse}
use Rattle.attribute_types.specs.declared.rows.NetworkUse.{NetworkUse}
use Rattle.attribute_scalars.specs.Lists.{if_any}
use Rattle.attribute_scalars.specs.Walks.{is_in}
use Rattle.typed_project.specs.declared.network.Network.{Network}
use Rattle.loaded_files.specs.declared.refusal.Kind.{Kind}
use Rattle.typed_project.specs.declared.project.Project.{Project}
use Rattle.typed_project.specs.declared.service.Service.{Service}
use Rattle.service_graph.specs.Cycles.{cycle, dependencies_of, first_of}
use Rattle.loading_words.specs.declared.refusal.ProjectRefusal.{ProjectRefusal}
use Rattle.loading_words.specs.declared.refusal.TreeRefusal.{TreeRefusal}

-- the network that a service is on which says nothing of networks (Compose Specification, networks)
abbrev pub default_key : List ℕ
default_key = codes "default"

-- the networks that a service joins by its own words
abbrev pub networks_named : Service → List (List ℕ)
networks_named service =
    map (λ joined. joined.key) (unwrap_or (networks_at service.attributes (codes "networks")) [])

-- the key of the volume that a mount is of
abbrev pub volume_of_mount : MountKind → Option (List ℕ) → List (List ℕ)
volume_of_mount MountKind.Volume (Some source) = source ∷ []
volume_of_mount other source = []

-- the volumes that a service mounts by their keys
abbrev pub volumes_named : Service → List (List ℕ)
volumes_named service =
    flat_map (λ mount. volume_of_mount mount.kind mount.source)
    (unwrap_or (mounts_at service.attributes (codes "volumes")) [])

-- the sources of the secrets, or of the configs, that a service uses
abbrev pub files_named : List ℕ → Service → List (List ℕ)
files_named name service = map (λ file. file.source) (unwrap_or (files_at service.attributes name) [])

-- the services that a service can't do without
abbrev pub services_required : Service → List (List ℕ)
services_required service =
    map (λ need. need.key) (filter (λ need. need.required) (dependencies_of service))

-- the keys of a project's services
abbrev pub service_keys : Project → List (List ℕ)
service_keys project = map (λ service. service.key) project.services

-- those of its networks
abbrev pub network_keys : Project → List (List ℕ)
network_keys project = map (λ network. network.key) project.networks

-- those of its volumes
abbrev pub volume_keys : Project → List (List ℕ)
volume_keys project = map (λ volume. volume.key) project.volumes

-- those of its secrets
abbrev pub secret_keys : Project → List (List ℕ)
secret_keys project = map (λ secret. secret.key) project.secrets

-- those of its configs
abbrev pub config_keys : Project → List (List ℕ)
config_keys project = map (λ config. config.key) project.configs

-- the least of some names that isn't there
abbrev pub least_missing : List (List ℕ) → List (List ℕ) → Option (List ℕ)
least_missing there names = find (λ name. not (is_in there name)) (by_key (λ name. name) names)

-- what is undefined of one kind
abbrev pub undefined_as : Kind → Service → Option (List ℕ) → Option ProjectRefusal
undefined_as kind service missing = option_map (λ name. ProjectRefusal.Undefined kind service.key name) missing

-- the first name that a service uses and that isn't there: of a network, a volume, a service, a secret or a config
abbrev pub undefined_in : Project → Service → Option ProjectRefusal
undefined_in project service =
    first_of (
    undefined_as Kind.Network service (least_missing (default_key ∷ network_keys project) (networks_named service))
    ∷ undefined_as Kind.Volume service (least_missing (volume_keys project) (volumes_named service))
    ∷ undefined_as Kind.Service service (least_missing (service_keys project) (services_required service))
    ∷ undefined_as Kind.Secret service (least_missing (secret_keys project) (files_named (codes "secrets") service))
    ∷ undefined_as Kind.Config service (least_missing (config_keys project) (files_named (codes "configs") service))
    ∷ [])

-- the first of all services, in their order, that uses such a name
abbrev pub undefined_of : Project → Option ProjectRefusal
undefined_of project = first_of (map (undefined_in project) project.services)

-- attributes without one
abbrev pub without : List ℕ → List Attribute → List Attribute
without name attributes = filter (λ attribute. not (bytes_eq attribute.name name)) attributes

-- attributes with a value under a name that has none, in byte order
abbrev pub with_value : List ℕ → Option Value → List Attribute → List Attribute
with_value name None attributes = attributes
with_value name (Some value) attributes =
    placed {X = Attribute} (λ attribute. attribute.name) (record { name = name; value = value }) attributes

-- the dependencies on services that are there
abbrev pub needs_there : List (List ℕ) → Service → Option Value
needs_there keys service =
    option_map Value.Dependencies (if_any (filter (λ need. is_in keys need.key) (dependencies_of service)))

-- the attributes of a service without its dependencies on services that aren't there, which it can do without
abbrev pub without_missing : List (List ℕ) → Service → List Attribute
without_missing keys service =
    with_value (codes "depends_on") (needs_there keys service)
    (without (codes "depends_on") service.attributes)

-- attributes say something of networks
abbrev pub says_networks : List Attribute → Bool
says_networks attributes =
    is_some (networks_at attributes (codes "networks")) || is_some (text_at attributes (codes "network_mode"))

-- attributes with the default network, where nothing is said of networks
abbrev pub with_default : List Attribute → List Attribute
with_default attributes =
    if says_networks attributes then attributes
    else with_value (codes "networks")
    (Some (Value.Networks (record { key = default_key; aliases = [] } ∷ []))) attributes

-- a service as a part of its project
abbrev pub settled : List (List ℕ) → Service → Service
settled keys service = record { key = service.key; attributes = with_default (without_missing keys service) }

-- a key is among those that the services name
abbrev pub is_used : (Service → List (List ℕ)) → List Service → List ℕ → Bool
is_used names services key = list_any (λ service. is_in (names service) key) services

-- the default network of a project, of which nothing more is said
abbrev pub default_network : List ℕ → Network
default_network project = record {
  key = default_key;
  attributes =
      record { name = codes "name"; value = Value.Text (project ++ codes "_" ++ default_key) } ∷ [];
}

-- networks with the default one, where it is used and not declared
abbrev pub with_default_network : List ℕ → Bool → List Network → List Network
with_default_network project false networks = networks
with_default_network project true networks =
    if is_in (map (λ network. network.key) networks) default_key then networks
    else placed {X = Network} (λ network. network.key) (default_network project) networks

-- a project of services that are settled, with the networks, volumes, secrets and configs that they use
abbrev pub used_by : Project → List Service → Project
used_by project services = record {
  name = project.name;
  services = services;
  networks =
      filter (λ network. is_used networks_named services network.key)
      (with_default_network project.name (is_used networks_named services default_key) project.networks);
  volumes = filter (λ volume. is_used volumes_named services volume.key) project.volumes;
  secrets = filter (λ secret. is_used (files_named (codes "secrets")) services secret.key) project.secrets;
  configs = filter (λ config. is_used (files_named (codes "configs")) services config.key) project.configs;
}

-- services that don't need one another in a circle
abbrev pub without_circle : List Service → Option (List (List ℕ)) → Result (List Service) TreeRefusal
without_circle services None = Ok services
without_circle services (Some circle) = Err (TreeRefusal.Project (ProjectRefusal.DependencyCycle circle))

-- services that are settled, and don't need one another in a circle
abbrev pub settled_services : Project → Result (List Service) TreeRefusal
settled_services project =
    let services = map (settled (service_keys project)) project.services in
    without_circle services (cycle services)

-- the project where all names are there
abbrev pub completed_unless : Project → Option ProjectRefusal → Result Project TreeRefusal
completed_unless project (Some refusal) = Err (TreeRefusal.Project refusal)
completed_unless project None = settled_services project >>= λ services. Ok (used_by project services)

-- the project as a whole, or why it is none: a name that isn't there, or else a circle
abbrev pub completed : Project → Result Project TreeRefusal
completed project = completed_unless project (undefined_of project)
