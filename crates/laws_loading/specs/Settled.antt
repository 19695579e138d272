-- Models in which nothing is left to load.
use Rattle.std.specs.Prelude.{◌≡◌, ◌⊎◌, ℕ, suc, true, List, Option, Some, None, Ok, codes}
use Rattle.std.specs.Map.{keys_of}
use Rattle.file_paths.specs.Resolving.{Entries}
use Rattle.include_extends.specs.Includes.{model}
use Rattle.include_extends.specs.Merged.{merged_model}
use Rattle.include_extends.specs.declared.model.Model.{Model}
use Rattle.include_extends.specs.declared.request.Places.{Places}
use Rattle.loaded_files.specs.Paths.{Variables}
use Rattle.loaded_files.specs.Reads.{loaded_from}
use Rattle.loaded_files.specs.declared.reads.Seen.{Seen}
use Rattle.merge_tables.specs.Answers.{within}
use Rattle.merge_rules.specs.Laws.{are_apart}
use Rattle.outside_files.specs.Files.{Contents}
use Rattle.service_environments.specs.Environments.{settings}
use Rattle.tree_base.specs.Entries.{value_at}
use Rattle.tree_base.specs.declared.Tree.{Tree, Map, Null}

-- what stands at `environment`, which is nothing, or variables with a value each
abbrev pub IsSet : Option Tree → Type 0
IsSet found =
    (found ≡ None)
    ⊎ ((values : Variables) × (found ≡ Some (settings values)) × (are_apart (keys_of values) ≡ true))

-- a service that extends none, has no env files, and whose environment is set
abbrev pub IsSettledService : Tree → Type 0
IsSettledService service =
    (entries : Entries) × (service ≡ Map entries)
    × (value_at entries (codes "extends") ≡ None)
    × (value_at entries (codes "env_file") ≡ None)
    × IsSet (value_at entries (codes "environment"))

-- services of which each is so
abbrev pub AreSettledServices : Entries → Type 0
AreSettledServices services =
    (name : List ℕ) (service : Tree) → value_at services name ≡ Some service → IsSettledService service

-- what stands at `services`, which is nothing, null, or a mapping of such services
abbrev pub AreSettled : Option Tree → Type 0
AreSettled found =
    (found ≡ None) ⊎ (found ≡ Some Null)
    ⊎ ((services : Entries) × (found ≡ Some (Map services)) × AreSettledServices services)

-- a tree that includes nothing, and whose services are so
abbrev pub IsSettled : Tree → Type 0
IsSettled tree =
    (tree ≡ Null)
    ⊎ ((top : Entries) × (tree ≡ Map top) × (value_at top (codes "include") ≡ None)
    × AreSettled (value_at top (codes "services")))

-- where nothing is left to extend, to include or to set, what is loaded is what the files gave, merged
abbrev pub SettledModelsAreTheirFiles : Type 0
SettledModelsAreTheirFiles =
    (files : Contents) (levels : ℕ) (places : Places) (caller : Variables) (begun : List (List ℕ))
    (found : Option Seen) (left : ℕ) (own : Model)
    → loaded_from files
    (merged_model places.files places.directory places.env_files caller found left) ≡ Ok own
    → IsSettled own.tree → within own.tree ≡ Ok own.tree
    → loaded_from files (model (suc levels) places caller begun found left) ≡ Ok own
