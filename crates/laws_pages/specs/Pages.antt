-- Pages of projects, and what is read where a page is the Compose file.
use Rattle.std.specs.Prelude.{◌≡◌, ◌≤◌, ℕ, Bool, true, IsTrue, List, [], Option, Ok, codes, is_some, length, unwrap_or}
use Rattle.std.specs.List.{list_all}
use Rattle.tree_base.specs.Limits.{most_file_bytes}
use Rattle.laws_attributes.specs.Accepted.{AreLongIfLoose}
use Rattle.active_services.specs.Laws.{services_of}
use Rattle.attribute_types.specs.Lookups.{pairs_at}
use Rattle.active_services.specs.Profiles.{Profiles, is_enabled}
use Rattle.file_paths.specs.Resolving.{resolved}
use Rattle.include_extends.specs.Loading.{loading}
use Rattle.laws_loading.specs.Loads.{HasFile, NamesNoOther, plain_request}
use Rattle.loaded_files.specs.Paths.{Variables, joined}
use Rattle.loaded_files.specs.Reads.{loaded_from}
use Rattle.loaded_files.specs.declared.Loaded.{Loaded}
use Rattle.merge_rules.specs.Alone.{no_twins}
use Rattle.merge_tables.specs.Attributes.{overlay_rules}
use Rattle.merge_rules.specs.Laws.{no_mark, own_keys}
use Rattle.normal_form.specs.ProjectNames.{is_name}
use Rattle.normal_form.specs.Projects as normal
use Rattle.outside_files.specs.Files.{Contents}
use Rattle.laws_pages.specs.Held.{is_held}
use Rattle.project_meaning.specs.Meaning.{project_of}
use Rattle.project_pages.specs.AttributePages.{page, project_node}
use Rattle.project_print.specs.Values.{value_of}
use Rattle.tree_base.specs.Entries.{HasDistinctKeys}
use Rattle.tree_base.specs.declared.Tree.{Tree}
use Rattle.typed_project.specs.declared.project.Project.{Project}
use Rattle.typed_project.specs.declared.service.Service.{Service}
use Rattle.laws_yaml.specs.BlockLaws.{IsWithinLimits}
use Rattle.laws_yaml.specs.Printed.{tree_of}

-- the tree of a project's page
abbrev pub page_tree : Project → Tree
page_tree project = value_of (project_node project)

-- a project that some merged tree means, which has no marks and no key twice
abbrev pub IsMeant : Project → Type 0
IsMeant project =
    (tree : Tree) × (no_mark tree ≡ true) × (own_keys tree ≡ true)
    × (project_of project.name tree ≡ Ok project)

-- each variable of a service's environment has a value: loading gives it one or takes it away (Compose Specification, environment)
abbrev pub has_values : Service → Bool
has_values service =
    list_all (λ pair. is_some pair.1) (unwrap_or (pairs_at service.attributes (codes "environment")) [])

-- a project whose page is loaded as that project: a tree means it; its name is one; its texts and keys are UTF-8, and no
-- mapping of its page has a key twice; its page is within the limits; no two of its entries are one where entries are unique;
-- what its services are built from is in long forms; its paths are absolute; the variables of its services have values; and
-- these profiles enable its services
pub record IsReadable (profiles : Profiles) (project : Project) : Type 0 where
  pub named : IsTrue (is_name project.name)
  pub meant : IsMeant project
  pub held : is_held (project_node project) ≡ true
  pub tree : IsWithinLimits (tree_of (project_node project))
  pub short : length (page project) ≤ most_file_bytes
  pub alone : no_twins overlay_rules (page_tree project) ≡ true
  pub long : AreLongIfLoose (page_tree project)
  pub placed : (directory : List ℕ) (env : Variables) → resolved directory env (page_tree project) ≡ Ok (page_tree project)
  pub valued : list_all has_values project.services ≡ true
  pub enabled : list_all (λ service. is_enabled profiles service.1) (services_of (page_tree project)) ≡ true

-- the page of a project, as the Compose file of a directory, is loaded as that project
abbrev pub PagesAreLoaded : Type 0
PagesAreLoaded =
    (option : Option (List ℕ)) (profiles : Profiles) (project : Project) (caller : Variables)
    (cwd : List ℕ) (files : Contents)
    → IsReadable profiles project → HasFile files (joined cwd []) (page project)
    → HasDistinctKeys caller → NamesNoOther option caller project
    → (loaded : Loaded) × (loaded_from files (loading (plain_request caller cwd)) ≡ Ok loaded)
    × (normal.project_of option profiles loaded ≡ Ok project)
