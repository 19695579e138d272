-- Laws of what trees mean.
use Rattle.std.specs.Prelude.{◌≡◌, ℕ, List, Ok, codes, map}
use Rattle.tree_base.specs.declared.Tree.{Tree, out-Tree}
use Rattle.attribute_scalars.specs.Walks.{Entries, in_byte_order}
use Rattle.project_meaning.specs.Meaning.{elements_in, project_of, section}
use Rattle.typed_project.specs.declared.project.Project.{Project}

-- each entry under the services of a tree that means a project is one service of that name, and there is no other
abbrev pub NoServiceIsLost : Type 0
NoServiceIsLost =
    (name : List ℕ) (tree : Tree) (elements : Entries) (project : Project)
    → elements_in (out-Tree tree) ≡ Ok elements → project_of name tree ≡ Ok project
    → map (λ service. service.key) project.services
    ≡ map (λ entry. entry.0) (in_byte_order (section elements (codes "services")))
