-- Laws of what a call loads, above its definitions.
use Rattle.std.specs.Prelude.{◌≡◌, ◌⊎◌, ℕ, suc, List, Option, Some, None, Result, Ok, Err, codes}
use Rattle.file_paths.specs.Resolving.{Entries}
use Rattle.include_extends.specs.Includes.{model}
use Rattle.include_extends.specs.Merged.{merged_model}
use Rattle.loaded_files.specs.declared.outcome.Loaded.{Loaded}
use Rattle.include_extends.specs.declared.model.Model.{Model}
use Rattle.include_extends.specs.declared.request.Places.{Places}
use Rattle.loaded_files.specs.Paths.{Variables}
use Rattle.loaded_files.specs.Reads.{Load, Ran, loaded_from}
use Rattle.loaded_files.specs.declared.reads.Seen.{Seen}
use Rattle.loaded_files.specs.declared.refusal.LoadRefusal.{LoadRefusal}
use Rattle.loaded_files.specs.declared.refusal.LoadRefusal.TheVariants.{ReadFault}
use Rattle.merge_tables.specs.Answers.{within}
use Rattle.outside_files.specs.Files.{Contents}
use Rattle.tree_base.specs.Entries.{value_at}
use Rattle.tree_base.specs.declared.Tree.{Tree, Map, Null}

-- where files tell what they hold, that gives what is loaded, unless a read failed
abbrev pub ToldFilesAreLoaded : Type 0
ToldFilesAreLoaded =
    (files : Contents) (load : Load Loaded) (result : Result Loaded LoadRefusal) → Ran (Some files) load result
    → (result ≡ loaded_from files load) ⊎ ((path : List ℕ) × (result ≡ Err (ReadFault path)))

-- a service that extends nothing, and says nothing of its environment
abbrev pub IsPlainService : Tree → Type 0
IsPlainService service =
    (entries : Entries) × (service ≡ Map entries)
    × (value_at entries (codes "extends") ≡ None)
    × (value_at entries (codes "env_file") ≡ None)
    × (value_at entries (codes "environment") ≡ None)

-- services of which each is so
abbrev pub ArePlainServices : Entries → Type 0
ArePlainServices services =
    (name : List ℕ) (service : Tree) → value_at services name ≡ Some service → IsPlainService service

-- what stands at `services`, which is nothing, null, or a mapping of such services
abbrev pub ArePlain : Option Tree → Type 0
ArePlain found =
    (found ≡ None) ⊎ (found ≡ Some Null)
    ⊎ ((services : Entries) × (found ≡ Some (Map services)) × ArePlainServices services)

-- a tree that includes nothing, and whose services are so
abbrev pub IsPlain : Tree → Type 0
IsPlain tree =
    (tree ≡ Null)
    ⊎ ((top : Entries) × (tree ≡ Map top) × (value_at top (codes "include") ≡ None)
    × ArePlain (value_at top (codes "services")))

-- where nothing is extended, included or said of environments, what is loaded is what the files gave, merged
abbrev pub PlainModelsAreTheirFiles : Type 0
PlainModelsAreTheirFiles =
    (files : Contents) (levels : ℕ) (places : Places) (caller : Variables) (begun : List (List ℕ))
    (found : Option Seen) (left : ℕ) (own : Model)
    → loaded_from files
    (merged_model places.files places.directory places.env_files caller found left) ≡ Ok own
    → IsPlain own.tree → within own.tree ≡ Ok own.tree
    → loaded_from files (model (suc levels) places caller begun found left) ≡ Ok own
