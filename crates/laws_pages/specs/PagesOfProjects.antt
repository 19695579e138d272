-- Pages, and the projects that they are of.
use Rattle.std.specs.Prelude.{◌≡◌, ℕ, true, List, Ok}
use Rattle.tree_base.specs.declared.Tree.{Tree}
use Rattle.merge_rules.specs.Laws.{no_mark, own_keys}
use Rattle.project_meaning.specs.Meaning.{project_of}
use Rattle.project_pages.specs.AttributePages.{project_node}
use Rattle.project_print.specs.Values.{value_of}
use Rattle.typed_project.specs.declared.project.Project.{Project}

-- a project that some merged tree means, which has no marks and no key twice, is what the tree of
-- its own page means
abbrev pub PagesMeanTheirProjects : Type 0
PagesMeanTheirProjects =
    (name : List ℕ) (tree : Tree) (project : Project) → no_mark tree ≡ true → own_keys tree ≡ true
    → project_of name tree ≡ Ok project
    → project_of name (value_of (project_node project)) ≡ Ok project
