-- What a project declares and what its services name, by kinds, as sorted names tell it.
use Rattle.std.specs.Prelude.{ℕ, not, ◌∷◌, [], List, Option, codes, find, map}
use Rattle.std.specs.Cmp.Lexicographic.{slice_cmp}
use Rattle.std.specs.List.Sorted.{IsSorted}
use Rattle.std.specs.Ordering.{nat_cmp}
use Rattle.tree_base.specs.ByteOrder.{by_key}
use Rattle.attribute_scalars.specs.Walks.{is_in}
use Rattle.loaded_files.specs.declared.refusal.Kind.{Kind}
use Rattle.loading_words.specs.declared.refusal.ProjectRefusal.{ProjectRefusal}
use Rattle.service_graph.specs.Cycles.{first_of}
use Rattle.typed_project.specs.declared.project.Project.{Project}
use Rattle.typed_project.specs.declared.service.Service.{Service}
use Rattle.project_meaning.specs.Completing.{config_keys, default_key, files_named, least_missing, network_keys, networks_named, secret_keys, service_keys, services_required, undefined_as, volume_keys, volumes_named}
use Rattle.project_meaning.specs.declared.keys.Keys.{Keys}

-- names in byte order
abbrev pub AreInOrder : List (List ℕ) → Type 0
AreInOrder = IsSorted (slice_cmp nat_cmp)

-- names, put in byte order
abbrev pub sorted : List (List ℕ) → List (List ℕ)
sorted = by_key (λ name. name)

-- what a service names of a kind
abbrev pub named : Kind → Service → List (List ℕ)
named Kind.Network = networks_named
named Kind.Volume = volumes_named
named Kind.Service = services_required
named Kind.Secret = files_named (codes "secrets")
named Kind.Config = files_named (codes "configs")

-- the names of a kind that are there; the default network always is
abbrev pub declared : Kind → Project → List (List ℕ)
declared Kind.Network project = default_key ∷ network_keys project
declared Kind.Volume project = volume_keys project
declared Kind.Service project = service_keys project
declared Kind.Secret project = secret_keys project
declared Kind.Config project = config_keys project

-- the keys of a kind among those of all kinds
abbrev pub keys_as : Kind → Keys → List (List ℕ)
keys_as Kind.Network keys = keys.networks.items
keys_as Kind.Volume keys = keys.volumes.items
keys_as Kind.Service keys = keys.services.items
keys_as Kind.Secret keys = keys.secrets.items
keys_as Kind.Config keys = keys.configs.items

-- the kinds, in the order in which a service's names are asked
abbrev pub kinds : List Kind
kinds = Kind.Network ∷ Kind.Volume ∷ Kind.Service ∷ Kind.Secret ∷ Kind.Config ∷ []

-- what is undefined of a kind, where these keys are there
abbrev pub undefined_of_kind : Keys → Service → Kind → Option ProjectRefusal
undefined_of_kind keys service kind =
    undefined_as kind service (least_missing (keys_as kind keys) (named kind service))

-- the first name that a service uses and that isn't among keys
abbrev pub undefined_among : Keys → Service → Option ProjectRefusal
undefined_among keys service = first_of (map (undefined_of_kind keys service) kinds)
