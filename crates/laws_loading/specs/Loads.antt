-- Files that are loaded as the projects that their trees mean.
use Rattle.std.specs.Prelude.{◌≡◌, ◌⊎◌, ◌≤◌, ℕ, true, IsTrue, List, [], All, Option, None, Some, Ok, codes, length}
use Rattle.std.specs.List.{list_all}
use Rattle.tree_base.specs.Limits.{most_file_bytes}
use Rattle.laws_attributes.specs.Accepted.{AreLongIfLoose, services_in}
use Rattle.active_services.specs.Laws.{services_of}
use Rattle.active_services.specs.Profiles.{Profiles, is_enabled}
use Rattle.file_paths.specs.Resolving.{resolved}
use Rattle.file_paths.specs.Shapes.{entries_in}
use Rattle.include_extends.specs.Loading.{loading}
use Rattle.include_extends.specs.declared.LoadRequest.{LoadRequest}
use Rattle.interpolate.specs.Walking.{substituted_tree}
use Rattle.loaded_files.specs.EnvFiles.{with_all}
use Rattle.loaded_files.specs.FileTrees.{tree_in}
use Rattle.loaded_files.specs.Paths.{Variables, joined}
use Rattle.loaded_files.specs.Reads.{loaded_from}
use Rattle.loaded_files.specs.declared.Loaded.{Loaded}
use Rattle.merge_rules.specs.Alone.{no_twins}
use Rattle.merge_tables.specs.Answers.{within}
use Rattle.merge_tables.specs.Attributes.{overlay_rules}
use Rattle.merge_rules.specs.Laws.{no_mark, own_keys}
use Rattle.laws_loading.specs.Settled.{IsSettledService}
use Rattle.normal_form.specs.ProjectNames.{is_name}
use Rattle.normal_form.specs.Projects.{name_given, project_of}
use Rattle.outside_files.specs.Files.{Contents}
use Rattle.project_meaning.specs.Meaning as meaning
use Rattle.tree_base.specs.Entries.{HasDistinctKeys, value_at}
use Rattle.tree_base.specs.declared.Tree.{Tree, Scalar, out-Tree}
use Rattle.typed_project.specs.declared.project.Project.{Project}

-- a tree that includes nothing, and whose services have nothing left to load
abbrev pub IsSettledThroughout : Tree → Type 0
IsSettledThroughout tree =
    (value_at (entries_in (out-Tree tree)) (codes "include") ≡ None)
    × All (λ service. IsSettledService service.1) (services_in tree)

-- a tree that is loaded as it is, and means a project: it has the project's name; it has no mark, no key twice, and no entry
-- twice where entries are unique; it is within the limits; what is asked little of is in long forms; its paths stay wherever they
-- are taken; its services have nothing left to load; and these profiles enable them
pub record IsLoadable (profiles : Profiles) (project : Project) (tree : Tree) : Type 0 where
  pub named : IsTrue (is_name project.name)
  pub names : value_at (entries_in (out-Tree tree)) (codes "name") ≡ Some (Scalar project.name)
  pub meant : meaning.project_of project.name tree ≡ Ok project
  pub unmarked : no_mark tree ≡ true
  pub keys : own_keys tree ≡ true
  pub alone : no_twins overlay_rules tree ≡ true
  pub bounded : within tree ≡ Ok tree
  pub long : AreLongIfLoose tree
  pub placed : (directory : List ℕ) (env : Variables) → resolved directory env tree ≡ Ok tree
  pub settled : IsSettledThroughout tree
  pub enabled : list_all (λ service. is_enabled profiles service.1) (services_of tree) ≡ true

-- files in which these bytes are the Compose file of a directory, without a `.env` beside it
pub record HasFile (files : Contents) (directory bytes : List ℕ) : Type 0 where
  pub file : value_at files (joined directory (codes "compose.yaml")) ≡ Some bytes
  pub short : length bytes ≤ most_file_bytes
  pub lone : value_at files (joined directory (codes ".env")) ≡ None

-- bytes that spell a tree, by the values that its scalars have under variables
pub record Spells (caller : Variables) (bytes : List ℕ) (tree : Tree) : Type 0 where
  pub spelled : Tree
  pub read : tree_in bytes ≡ Ok spelled
  pub valued : substituted_tree (value_at (with_all [] caller)) spelled ≡ Ok tree

-- a call names no project, or this one
abbrev pub NamesNoOther : Option (List ℕ) → Variables → Project → Type 0
NamesNoOther option caller project =
    (name_given option caller ≡ None) ⊎ (name_given option caller ≡ Some project.name)

-- a call that names no files, no project directory and no env files
abbrev pub plain_request : Variables → List ℕ → LoadRequest
plain_request caller cwd =
    record { files = []; project_directory = None; env_files = []; env = caller; cwd = cwd }

-- a Compose file that spells such a tree is loaded as the project that the tree means
abbrev pub SettledFilesAreLoaded : Type 0
SettledFilesAreLoaded =
    (option : Option (List ℕ)) (profiles : Profiles) (project : Project) (tree : Tree) (bytes : List ℕ)
    (caller : Variables) (cwd : List ℕ) (files : Contents)
    → IsLoadable profiles project tree → HasFile files (joined cwd []) bytes → Spells caller bytes tree
    → HasDistinctKeys caller → NamesNoOther option caller project
    → (loaded : Loaded) × (loaded_from files (loading (plain_request caller cwd)) ≡ Ok loaded)
    × (project_of option profiles loaded ≡ Ok project)
