-- Projects of services by their images, as a file has them.
use Rattle.std.specs.Prelude.{ℕ, List, [], ◌∷◌, codes, map}
use Rattle.tree_base.specs.declared.Tree.{Tree, Map, Scalar}
use Rattle.typed_project.specs.PlainProjects.{PlainProject, PlainService}

-- a service as a file has it
abbrev pub entry_of : PlainService → List ℕ × Tree
entry_of service = (
  service.key,
  Map (
      (codes "image", Scalar service.image) ∷ (codes "network_mode", Scalar (codes "none")) ∷ []),
)

-- a project as a file has it: its name and its services
abbrev pub tree_of_project : PlainProject → Tree
tree_of_project project =
    Map ((codes "name", Scalar project.name)
    ∷ (codes "services", Map (map entry_of project.services)) ∷ [])
