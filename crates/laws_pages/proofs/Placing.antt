-- The tree of a project has the form that it has to have, and no path.
use Rattle.std.proofs.Common.{◌≡◌, ◌∙◌, ℕ, Bool, false, cond, List, [], ◌∷◌, None, Ok, codes, map, refl, ap}
use Rattle.std.specs.Prelude.{filter, is_some}
use Rattle.file_paths.specs.PathRules.{path_rules}
use Rattle.file_paths.specs.Paths.{Variables, homed}
use Rattle.file_paths.specs.Resolving.{Entries, Home, resolved, resolved_by}
use Rattle.file_paths.specs.Shapes.{is_faulty, service_fault, shape_fault}
use Rattle.file_paths.specs.Spots.{service_rules, services_rules}
use Rattle.file_paths.proofs.Walking.{Keeps, map_stays, stays}
use Rattle.attribute_paths.proofs.Trees.{OfAll}
use Rattle.laws_pages.specs.PlainTrees.{entry_of, tree_of_project}
use Rattle.typed_project.specs.PlainProjects.{PlainProject, PlainService}
use Rattle.tree_base.specs.declared.tree.Tree.{Tree, out-Tree}
use Rattle.tree_base.specs.declared.tree.Tree.TheOpen.{Tree-F}
use Rattle.tree_base.specs.declared.tree.Tree.TheVariants.{Map, outs-Map, outs-Scalar}
use Rattle.tree_base.specs.declared.tree.Tree.TheVariants as trees

-- the attributes of a service as a file has it
abbrev pub attributes : PlainService → Entries
attributes service = (codes "image", trees.Scalar service.image) ∷ (codes "network_mode", trees.Scalar (codes "none")) ∷ []

-- none of them is one of those whose form is asked
not_faulty : (service : PlainService) → is_faulty (entry_of service) ≡ false
not_faulty service = ap (λ (tree : Tree-F Tree). is_some (service_fault tree)) (outs-Map (attributes service))

none_faulty : (services : List PlainService) → filter is_faulty (map entry_of services) ≡ []
none_faulty [] = refl
none_faulty (service ∷ services) =
    ap (λ (b : Bool). cond b (entry_of service ∷ filter is_faulty (map entry_of services)) (filter is_faulty (map entry_of services))) (not_faulty service) ∙ none_faulty services

-- the elements of a project's file
abbrev pub elements : PlainProject → Entries
elements project = (codes "name", trees.Scalar project.name) ∷ (codes "services", Map (map entry_of project.services)) ∷ []

pub page_shaped : (project : PlainProject) → shape_fault (out-Tree (tree_of_project project)) ≡ None
page_shaped project = rw (outs-Map (elements project), outs-Scalar project.name, outs-Map (map entry_of project.services), none_faulty project.services) refl

module _ (home : Home) where
  -- no rule holds of an image or of a network's mode
  service_stays : (service : PlainService) → resolved_by home (Map (attributes service)) service_rules ≡ Ok (Map (attributes service))
  unfolding path_rules services_rules service_rules
  service_stays service = map_stays home (attributes service) service_rules refl (stays home (trees.Scalar service.image), (stays home (trees.Scalar (codes "none")), tt))

  services_keep : (services : List PlainService) → OfAll (Keeps home services_rules) (map entry_of services)
  unfolding path_rules services_rules service_rules
  services_keep [] = tt
  services_keep (service ∷ services) = (service_stays service, services_keep services)

  services_stay : (services : List PlainService) → resolved_by home (Map (map entry_of services)) services_rules ≡ Ok (Map (map entry_of services))
  unfolding path_rules services_rules
  services_stay services = map_stays home (map entry_of services) services_rules refl (services_keep services)

  project_stays : (project : PlainProject) → resolved_by home (tree_of_project project) path_rules ≡ Ok (tree_of_project project)
  unfolding path_rules services_rules
  project_stays project = map_stays home (elements project) path_rules refl (stays home (trees.Scalar project.name), (services_stay project.services, tt))

pub page_paths : (directory : List ℕ) (env : Variables) (project : PlainProject) → resolved directory env (tree_of_project project) ≡ Ok (tree_of_project project)
unfolding resolved
page_paths directory env project = project_stays (homed directory env) project
