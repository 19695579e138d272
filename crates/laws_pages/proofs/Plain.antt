-- The tree of a project extends and includes nothing, and says nothing of environments.
use Rattle.std.proofs.Common.{◌≡◌, Bool, true, false, cond, List, [], ◌∷◌, Some, inr, map, refl, sym}
use Rattle.std.specs.Str.{bytes_eq}
use Rattle.include_extends.specs.Laws.{ArePlainServices, IsPlain, IsPlainService}
use Rattle.laws_pages.specs.PlainTrees.{entry_of, tree_of_project}
use Rattle.laws_pages.proofs.Placing.{attributes, elements}
use Rattle.typed_project.specs.PlainProjects.{PlainProject, PlainService}
use Rattle.tree_base.specs.Entries.{value_at}
use Rattle.tree_base.specs.declared.tree.Tree.TheVariants.{Map}

services_plain : (services : List PlainService) → ArePlainServices (map entry_of services)
services_plain [] name tree h = absurd cc
services_plain (service ∷ more) name tree h = by (services_plain more name tree) (bytes_eq name service.key) h
  where
    by : (value_at (map entry_of more) name ≡ Some tree → IsPlainService tree) → (b : Bool) → cond b (Some (Map (attributes service))) (value_at (map entry_of more) name) ≡ Some tree → IsPlainService tree
    by rest true p = (attributes service, (let same : Map (attributes service) ≡ tree = cc in sym same), refl, refl, refl)
    by rest false p = rest p

pub page_plain : (project : PlainProject) → IsPlain (tree_of_project project)
page_plain project = inr (elements project, refl, refl, inr (inr (map entry_of project.services, refl, services_plain project.services)))
