-- Which projects have a page that gives them back, and what is read where the page is the Compose file.
use Rattle.std.specs.Prelude.{◌≡◌, ◌≤◌, ℕ, true, IsTrue, List, [], None, Some, Ok, codes, length, map}
use Rattle.std.specs.List.{list_all}
use Rattle.std.specs.Str.{is_utf8}
use Rattle.tree_base.specs.Limits.{most_file_bytes, most_services}
use Rattle.include_extends.specs.Loading.{loading}
use Rattle.loaded_files.specs.Paths.{Variables, joined}
use Rattle.loaded_files.specs.Reads.{loaded_from}
use Rattle.include_extends.specs.declared.LoadRequest.{LoadRequest}
use Rattle.loaded_files.specs.declared.Loaded.{Loaded}
use Rattle.outside_files.specs.Files.{Contents}
use Rattle.active_services.specs.Profiles.{Profiles}
use Rattle.normal_form.specs.ProjectNames.{is_name}
use Rattle.normal_form.specs.Projects.{name_given, project_of}
use Rattle.laws_pages.specs.PlainNodes.{node_of, project_page}
use Rattle.project_meaning.specs.Meaning.{is_key}
use Rattle.typed_project.specs.PlainProjects.{AreInOrder, PlainProject}
use Rattle.typed_project.specs.PlainProjects as plain
use Rattle.tree_base.specs.Entries.{HasDistinctKeys, value_at}
use Rattle.laws_yaml.specs.BlockLaws.{IsWithinLimits}
use Rattle.laws_yaml.specs.Printed.{tree_of}

-- a project that a file can have: its name is one, it has at most 1,000 services in order, whose keys are keys of services, its texts
-- are UTF-8, and its page and the page's tree are within the limits
pub record IsReadable (project : PlainProject) : Type 0 where
  pub named : IsTrue (is_name project.name)
  pub few : length project.services ≤ most_services
  pub order : AreInOrder project.services
  pub are_keys : list_all is_key (map (λ service. service.key) project.services) ≡ true
  pub keys : list_all is_utf8 (map (λ service. service.key) project.services) ≡ true
  pub images : list_all is_utf8 (map (λ service. service.image) project.services) ≡ true
  pub tree : IsWithinLimits (tree_of (node_of project))
  pub page : length (project_page project) ≤ most_file_bytes

-- files in which the page of a project is the Compose file of a directory, without a `.env` beside it
pub record HasPage (files : Contents) (directory : List ℕ) (project : PlainProject) : Type 0 where
  pub page : value_at files (joined directory (codes "compose.yaml")) ≡ Some (project_page project)
  pub alone : value_at files (joined directory (codes ".env")) ≡ None

-- a call that names no files, no project directory and no env files
abbrev pub plain_request : Variables → List ℕ → LoadRequest
plain_request caller cwd =
    record { files = []; project_directory = None; env_files = []; env = caller; cwd = cwd }

-- where the page of a project is the Compose file, what is loaded there is that project: in every directory, under all profiles,
-- and whatever the caller's variables are that don't name another project
abbrev pub ProjectPagesReadBack : Type 0
ProjectPagesReadBack = (profiles : Profiles) (project : PlainProject) (caller : Variables) (cwd : List ℕ) (files : Contents)
    → IsReadable project → HasPage files (joined cwd []) project → HasDistinctKeys caller → name_given None caller ≡ None
    → (loaded : Loaded) × (loaded_from files (loading (plain_request caller cwd)) ≡ Ok loaded)
    × (project_of None profiles loaded ≡ Ok (plain.project_of project))
