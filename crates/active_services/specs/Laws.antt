-- Laws of active services.
use Rattle.std.specs.Prelude.{◌≡◌, ℕ, true, false, List, [], Ok, is_some, not, codes}
use Rattle.std.specs.List.{list_all}
use Rattle.std.specs.Option.{option_map_or}
use Rattle.active_services.specs.Profiles.{Entries, Profiles, active, attribute_at, entries_in, is_disabled, is_enabled, is_given, needs_of}
use Rattle.tree_base.specs.Entries.{HasDistinctKeys, value_at}
use Rattle.tree_base.specs.declared.Tree.{Tree, out-Tree}

-- the services of a model's tree
abbrev pub services_of : Tree → Entries
services_of tree =
    option_map_or (λ services. entries_in (out-Tree services))
    (attribute_at (codes "services") (out-Tree tree)) []

-- profiles that name the same ones have the same active services: neither their order counts, nor how often one is given
abbrev pub OrderOfProfilesIsFree : Type 0
OrderOfProfilesIsFree =
    (these those : Profiles) → ((name : List ℕ) → is_given these name ≡ is_given those name)
    → (tree : Tree) → active these tree ≡ active those tree

-- a service of the model is among the active ones exactly where it is enabled, and no other service is
abbrev pub EnabledServicesAreKept : Type 0
EnabledServicesAreKept =
    (profiles : Profiles) (tree kept : Tree) → HasDistinctKeys (services_of tree)
    → active profiles tree ≡ Ok kept → (name : List ℕ)
    → is_some (value_at (services_of kept) name)
    ≡ option_map_or (is_enabled profiles) (value_at (services_of tree) name) false

-- a model all of whose services are enabled stays as it is
abbrev pub EnabledModelsStay : Type 0
EnabledModelsStay =
    (profiles : Profiles) (tree : Tree)
    → list_all (λ service. is_enabled profiles service.1) (services_of tree) ≡ true
    → active profiles tree ≡ Ok tree

-- an active service depends on no service that the model has and that isn't enabled
abbrev pub ActiveServicesNeedNoOther : Type 0
ActiveServicesNeedNoOther =
    (profiles : Profiles) (tree kept : Tree) → active profiles tree ≡ Ok kept
    → list_all (λ service.
    list_all (λ need. not (is_disabled (is_enabled profiles) (services_of tree) need.0))
    (needs_of service.1)) (services_of kept) ≡ true
