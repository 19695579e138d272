-- Projects whose services don't need one another in a circle (Compose Specification, depends_on).
use Rattle.std.specs.Prelude.{◌≡◌, ℕ, List, Option, None, Ok}
use Rattle.active_services.specs.Profiles.{Profiles}
use Rattle.loaded_files.specs.declared.Loaded.{Loaded}
use Rattle.normal_form.specs.Projects.{project_of}
use Rattle.project_meaning.specs.Meaning as meaning
use Rattle.service_graph.specs.Cycles.{cycle}
use Rattle.tree_base.specs.declared.Tree.{Tree}
use Rattle.typed_project.specs.declared.project.Project.{Project}

-- no services of a project that a tree means need one another in a circle
abbrev pub MeantProjectsHaveNoCircle : Type 0
MeantProjectsHaveNoCircle =
    (name : List ℕ) (tree : Tree) (project : Project)
    → meaning.project_of name tree ≡ Ok project → cycle project.services ≡ None

-- nor do those of a project that is loaded, under whatever name and profiles
abbrev pub LoadedProjectsHaveNoCircle : Type 0
LoadedProjectsHaveNoCircle =
    (option : Option (List ℕ)) (profiles : Profiles) (loaded : Loaded) (project : Project)
    → project_of option profiles loaded ≡ Ok project → cycle project.services ≡ None
