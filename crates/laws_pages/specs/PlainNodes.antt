-- What the page of a project of services by their images shows.
use Rattle.std.specs.Prelude.{ℕ, List, [], ◌∷◌, codes, map}
use Rattle.project_pages.specs.AttributePages.{page}
use Rattle.project_print.specs.declared.node.Node.{Node}
use Rattle.project_print.specs.declared.node.Node.TheVariants.{Map, Text}
use Rattle.typed_project.specs.PlainProjects.{PlainProject, PlainService, project_of}

-- what the page shows of a service: its image, and that it has no network
abbrev pub service_node : PlainService → Node
service_node service = Map ((codes "image", Text service.image) ∷ (codes "network_mode", Text (codes "none")) ∷ [])

-- each service under its key
abbrev pub entry_of : PlainService → List ℕ × Node
entry_of service = (service.key, service_node service)

-- what the page shows of a project: its name, and its services in their order
abbrev pub node_of : PlainProject → Node
node_of project = Map ((codes "name", Text project.name) ∷ (codes "services", Map (map entry_of project.services)) ∷ [])

-- the page of a project
abbrev pub project_page : PlainProject → List ℕ
project_page project = page (project_of project)
