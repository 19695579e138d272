-- The services of a model's tree, and of what is kept of it.
use Rattle.std.proofs.Common.{◌≡◌, ◌∙◌, Bool, [], None, Some, Ok, codes, refl, ap, sym, subst}
use Rattle.std.specs.Prelude.{Option, Result}
use Rattle.std.specs.Option.{option_map, option_map_or}
use Rattle.active_services.specs.Laws.{services_of}
use Rattle.active_services.specs.Profiles.{Entries, active_by, active_in, attribute_at, entries_in, first_refusal, services_kept, unless_refused, with_services}
use Rattle.active_services.specs.declared.refusal.ActiveRefusal.{ActiveRefusal}
use Rattle.active_services.proofs.Mappings.{put_there}
use Rattle.tree_base.specs.Entries.{value_at, with_entry}
use Rattle.tree_base.specs.declared.tree.Tree.{Tree, out-Tree}
use Rattle.tree_base.specs.declared.tree.Tree.TheOpen.{Tree-F}
use Rattle.tree_base.specs.declared.tree.Tree.TheVariants.{Map, outs-Map}

-- the services under what stands at their key
abbrev pub under : Option Tree → Entries
under found = option_map_or (λ services. entries_in (out-Tree services)) found []

-- those of a tree that opens to something
pub services_by : (tree : Tree) (root : Tree-F Tree) → out-Tree tree ≡ root → services_of tree ≡ under (attribute_at (codes "services") root)
services_by tree root is = ap (λ (t : Tree-F Tree). under (attribute_at (codes "services") t)) is

-- those that were put in place of a model's own
pub services_put : (model services : Entries) → services_of (with_services model services) ≡ services
services_put model services =
    services_by (with_services model services) (Tree-F.Map (with_entry model (codes "services") (Map services))) (outs-Map (with_entry model (codes "services") (Map services)))
    ∙ ap under (put_there model (codes "services") (Map services))
    ∙ ap entries_in (outs-Map services)

-- what holds of a model without services, and of each list of services with those that are kept of it, holds of a model and of what
-- is kept of it
module _ (enabled : Tree → Bool) (tree found : Tree) (P : Entries → Entries → Type 0) (none : P [] []) (kept : (services : Entries) → services_of tree ≡ services → P services (services_kept enabled services)) where
  abbrev Holds : Type 0
  Holds = P (services_of tree) (services_of found)

  without : services_of tree ≡ [] → ◌≡◌ {A = Result Tree ActiveRefusal} (Ok tree) (Ok found) → Holds
  without empty is =
      let same : tree ≡ found = cc is in
      subst (λ (t : Tree). P (services_of tree) (services_of t)) same (subst (λ (l : Entries). P l l) (sym empty) none)

  among : (model services : Entries) → services_of tree ≡ services → unless_refused (first_refusal enabled services) (with_services model (services_kept enabled services)) ≡ Ok found → Holds
  among model services those is = at (first_refusal enabled services) is
    where
      at : (o : Option ActiveRefusal) → unless_refused o (with_services model (services_kept enabled services)) ≡ Ok found → Holds
      at (Some refusal) is = absurd (cc is)
      at None is =
          let same : with_services model (services_kept enabled services) ≡ found = cc is in
          subst (λ (t : Tree). P (services_of tree) (services_of t)) same
          (subst (λ (l : Entries). P (services_of tree) l) (sym (services_put model (services_kept enabled services)))
          (subst (λ (l : Entries). P l (services_kept enabled services)) (sym those) (kept services those)))

  by_services : (model : Entries) → out-Tree tree ≡ Tree-F.Map model → active_by enabled tree model (option_map out-Tree (value_at model (codes "services"))) ≡ Ok found → Holds
  by_services model opens is = at (value_at model (codes "services")) refl is
    where
      here : (o : Option Tree) → value_at model (codes "services") ≡ o → services_of tree ≡ under o
      here o there = services_by tree (Tree-F.Map model) opens ∙ ap under there

      opened : (services : Tree) (root : Tree-F Tree) → out-Tree services ≡ root → value_at model (codes "services") ≡ Some services → active_by enabled tree model (Some root) ≡ Ok found → Holds
      opened services (Tree-F.Map entries) opens there is = among model entries (here (Some services) there ∙ ap entries_in opens) is
      opened services root opens there is = without (here (Some services) there ∙ ap entries_in opens) is

      at : (o : Option Tree) → value_at model (codes "services") ≡ o → active_by enabled tree model (option_map out-Tree o) ≡ Ok found → Holds
      at None there is = without (here None there) is
      at (Some services) there is = opened services (out-Tree services) refl there is

  pub active_cases : active_in enabled tree (out-Tree tree) ≡ Ok found → Holds
  active_cases is = at (out-Tree tree) refl is
    where
      at : (root : Tree-F Tree) → out-Tree tree ≡ root → active_in enabled tree root ≡ Ok found → Holds
      at (Tree-F.Map model) opens is = by_services model opens is
      at root opens is = without (services_by tree root opens) is
