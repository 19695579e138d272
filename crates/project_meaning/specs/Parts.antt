-- Parts of what a project means that have functions of their own.
use Rattle.std.specs.Prelude.{ℕ, List, [], ◌∷◌, Ok, codes, filter, map, unwrap_or}
use Rattle.std.specs.Prelude.{Result}
use Rattle.tree_base.specs.Answers.{◌>>=◌}
use Rattle.tree_base.specs.declared.Tree.{Tree}
use Rattle.tree_base.specs.declared.Tree.TheOpen.{Tree-F}
use Rattle.attribute_types.specs.Lookups.{text_at}
use Rattle.attribute_types.specs.declared.attribute.Attribute.{Attribute}
use Rattle.attribute_types.specs.declared.form.Plain.{Plain}
use Rattle.attribute_types.specs.declared.rows.Dependency.{Dependency}
use Rattle.attribute_types.specs.Tables.{Lines}
use Rattle.attribute_values.specs.Fields.{fields_of}
use Rattle.attribute_scalars.specs.Walks.{Entries, Read, is_in, own_entries}
use Rattle.service_graph.specs.Cycles.{dependencies_of}
use Rattle.typed_project.specs.declared.network.Network.{Network}
use Rattle.typed_project.specs.declared.project.FileItem.{FileItem}
use Rattle.typed_project.specs.declared.service.Service.{Service}
use Rattle.typed_project.specs.declared.volume.Volume.{Volume}
use Rattle.loading_words.specs.declared.refusal.TreeRefusal.{TreeRefusal}
use Rattle.typed_project.specs.declared.project.Project.{Project}
use Rattle.project_meaning.specs.Completing.{service_keys, settled, with_default, without_missing}
use Rattle.project_meaning.specs.Meaning.{all_declared, entries_or_none, few_services, file_of, network_of, of_attributes, section, service_of, volume_of, with_name}

-- what stands in a mapping, or in null, by its table, where what extends a file is passed over
abbrev pub fields_under : Lines Plain → List (List ℕ) → Tree-F Tree → Read (List Attribute)
fields_under lines wanted tree =
    entries_or_none tree >>= λ entries. fields_of lines wanted (own_entries entries)

-- a network by its attributes
abbrev pub network_from : List ℕ → List ℕ → List Attribute → Network
network_from project key attributes = record { key = key; attributes = with_name project key attributes }

-- a volume by its attributes
abbrev pub volume_from : List ℕ → List ℕ → List Attribute → Volume
volume_from project key attributes = record { key = key; attributes = with_name project key attributes }

-- a file by its attributes
abbrev pub file_from : List ℕ → List Attribute → FileItem
file_from key attributes = record { key = key; file = unwrap_or (text_at attributes (codes "file")) [] }

-- what few entries give, where nothing more is asked of them
abbrev pub asked_few : Entries → Result (Unit {0}) TreeRefusal
asked_few entries = few_services entries >>= λ few. Ok tt

-- the dependencies on services that are there
abbrev pub kept_needs : List (List ℕ) → Service → List Dependency
kept_needs keys service = filter (λ need. is_in keys need.key) (dependencies_of service)

-- a service without its dependencies on services that aren't there
abbrev pub without_missing_needs : List (List ℕ) → Service → Service
without_missing_needs keys service =
    record { key = service.key; attributes = without_missing keys service }

-- a service with the default network, where nothing is said of networks
abbrev pub with_default_use : Service → Service
with_default_use service = record { key = service.key; attributes = with_default service.attributes }

-- a project with its services settled
abbrev pub with_settled : Project → Project
with_settled project =
    record project { services = map (settled (service_keys project)) project.services }

-- what the top-level elements declare under a project's name
abbrev pub declared_by : List ℕ → Entries → Result Project TreeRefusal
declared_by name elements =
    of_attributes (all_declared (network_of name) elements (codes "networks")) >>= λ networks.
    of_attributes (all_declared (volume_of name) elements (codes "volumes")) >>= λ volumes.
    of_attributes (all_declared file_of elements (codes "secrets")) >>= λ secrets.
    of_attributes (all_declared file_of elements (codes "configs")) >>= λ configs.
    few_services (section elements (codes "services")) >>= λ few.
    of_attributes (all_declared service_of elements (codes "services")) >>= λ services.
    Ok (record {
      name = name;
      services = services;
      networks = networks;
      volumes = volumes;
      secrets = secrets;
      configs = configs;
    })
