-- What is said of attributes that are read and have no effect.
use Rattle.std.specs.Prelude.{ℕ, Bool, false, ◌==◌, if◌then◌else◌, List, [], ◌∷◌, ◌++◌, flat_map, is_some, length, Option, Some, None, codes, option_and_then}
use Rattle.std.specs.Option.{option_map_or, option_to_list}
use Rattle.attribute_types.specs.Lookups.{kept_at}
use Rattle.notes.specs.declared.attributes.Section.{Section}
use Rattle.run_model.specs.Shown.{shown}
use Rattle.tree_base.specs.Entries.{value_at}
use Rattle.tree_base.specs.declared.Tree.{Tree, out-Tree}
use Rattle.tree_base.specs.declared.Tree.TheOpen.{Tree-F}
use Rattle.typed_project.specs.declared.service.Service.{Service}

-- the attributes of `deploy` that one Engine has no use for (Compose Specification, Deploy Specification); the numbers of containers and
-- of those that are replaced at a time have an effect
abbrev pub deploy_names : List (List ℕ)
deploy_names =
    codes "endpoint_mode" ∷ codes "labels" ∷ codes "mode" ∷ codes "placement" ∷ codes "resources"
    ∷ codes "restart_policy" ∷ codes "rollback_config" ∷ []

-- the same of its `update_config`
abbrev pub update_names : List (List ℕ)
update_names =
    codes "delay" ∷ codes "failure_action" ∷ codes "max_failure_ratio" ∷ codes "monitor"
    ∷ codes "order" ∷ []

-- the entries of a mapping
abbrev pub entries_of : Tree-F Tree → Option (List (List ℕ × Tree))
entries_of (Tree-F.Map entries) = Some entries
entries_of tree = None

-- what a service has in `deploy`
abbrev pub deploy_below : Service → Option (List (List ℕ × Tree))
deploy_below service =
    option_and_then (λ tree. entries_of (out-Tree tree))
    (kept_at service.attributes (codes "deploy"))

-- what stands under a key, as entries
abbrev pub entry_at : List (List ℕ × Tree) → List ℕ → Option (List (List ℕ × Tree))
entry_at entries key = option_and_then (λ tree. entries_of (out-Tree tree)) (value_at entries key)

-- what a service has in a section
abbrev pub entries_below : Section → Service → Option (List (List ℕ × Tree))
entries_below Section.Deploy service = deploy_below service
entries_below Section.Updates service =
    option_and_then (λ entries. entry_at entries (codes "update_config")) (deploy_below service)

-- a service has an attribute of a section
abbrev pub has_key : Section → List ℕ → Service → Bool
has_key section key service =
    option_map_or (λ entries. is_some (value_at entries key)) (entries_below section service) false

-- the key of a service that has an attribute, behind a space
abbrev pub user_name : Section → List ℕ → Service → List ℕ
user_name section key service =
    if has_key section key service then codes " " ++ shown service.key else []

-- how the attributes of a section are told
abbrev pub prefix_of : Section → List ℕ
prefix_of Section.Deploy = codes "deploy."
prefix_of Section.Updates = codes "deploy.update_config."

-- what is said of an attribute with these services, where there are any
abbrev pub note_of : Section → List ℕ → List ℕ → Option (List ℕ)
note_of section key users =
    if length users == 0 then None
    else Some (prefix_of section ++ key ++ codes " has no effect:" ++ users)

-- what is said of an attribute, by the services that have it
abbrev pub use_note : Section → List Service → List ℕ → Option (List ℕ)
use_note section services key = note_of section key (flat_map (user_name section key) services)

-- the same, as notes
abbrev pub key_notes : Section → List Service → List ℕ → List (List ℕ)
key_notes section services key = option_to_list (use_note section services key)

-- what is said of all attributes that have no effect, each once
abbrev pub attribute_notes : List Service → List (List ℕ)
attribute_notes services =
    flat_map (key_notes Section.Deploy services) deploy_names
    ++ flat_map (key_notes Section.Updates services) update_names
