-- What active services depend on.
use Rattle.std.proofs.Common.{◌≡◌, ◌∙◌, ℕ, Bool, true, false, cond, not, ◌&&◌, List, [], ◌∷◌, None, Some, codes, filter, map, refl, ap}
use Rattle.std.specs.Prelude.{Option}
use Rattle.std.specs.List.{list_all}
use Rattle.std.specs.Option.{option_map}
use Rattle.active_services.specs.Laws.{ActiveServicesNeedNoOther}
use Rattle.active_services.specs.Profiles.{Entries, attribute_at, attributes_kept, entries_in, is_disabled, is_enabled, needs_kept, needs_of, service_kept}
use Rattle.active_services.proofs.Mappings.{put_there}
use Rattle.active_services.proofs.Models.{active_cases, under}
use Rattle.tree_base.specs.Entries.{value_at, with_entry}
use Rattle.tree_base.specs.declared.tree.Tree.{Tree, out-Tree}
use Rattle.tree_base.specs.declared.tree.Tree.TheOpen.{Tree-F}
use Rattle.tree_base.specs.declared.tree.Tree.TheVariants.{Map, outs-Map}

-- the dependencies of a service that opens to something
needs_by : (service : Tree) (root : Tree-F Tree) → out-Tree service ≡ root → needs_of service ≡ under (attribute_at (codes "depends_on") root)
needs_by service root is = ap (λ (t : Tree-F Tree). under (attribute_at (codes "depends_on") t)) is

-- those that were put in place of its own
needs_put : (attributes needs : Entries) → needs_of (Map (with_entry attributes (codes "depends_on") (Map needs))) ≡ needs
needs_put attributes needs =
    needs_by (Map (with_entry attributes (codes "depends_on") (Map needs))) (Tree-F.Map (with_entry attributes (codes "depends_on") (Map needs))) (outs-Map (with_entry attributes (codes "depends_on") (Map needs)))
    ∙ ap under (put_there attributes (codes "depends_on") (Map needs))
    ∙ ap entries_in (outs-Map needs)

module _ (enabled : Tree → Bool) (services : Entries) where
  abbrev stays : List ℕ × Tree → Bool
  stays need = not (is_disabled enabled services need.0)

  abbrev NeedsNone : Tree → Type 0
  NeedsNone service = list_all stays (needs_of service) ≡ true

  filtered : (needs : Entries) → list_all stays (filter stays needs) ≡ true
  filtered [] = refl
  filtered (n ∷ needs) = by (stays n) refl (filtered needs)
    where
      by : (b : Bool) → stays n ≡ b → list_all stays (filter stays needs) ≡ true → list_all stays (cond b (n ∷ filter stays needs) (filter stays needs)) ≡ true
      by true is rest = ap (λ (b : Bool). b && list_all stays (filter stays needs)) is ∙ rest
      by false is rest = rest

  none_there : (service : Tree) → needs_of service ≡ [] → NeedsNone service
  none_there service none = ap (list_all stays) none

  mapping_needs : (attributes : Entries) → NeedsNone (Map (attributes_kept enabled services attributes (option_map out-Tree (value_at attributes (codes "depends_on")))))
  mapping_needs attributes = found (value_at attributes (codes "depends_on")) refl
    where
      here : (o : Option Tree) → value_at attributes (codes "depends_on") ≡ o → needs_of (Map attributes) ≡ under o
      here o there = needs_by (Map attributes) (Tree-F.Map attributes) (outs-Map attributes) ∙ ap under there

      opened : (needs : Tree) (root : Tree-F Tree) → out-Tree needs ≡ root → value_at attributes (codes "depends_on") ≡ Some needs → NeedsNone (Map (attributes_kept enabled services attributes (Some root)))
      opened needs (Tree-F.Map entries) opens there = ap (list_all stays) (needs_put attributes (needs_kept enabled services entries)) ∙ filtered entries
      opened needs root opens there = none_there (Map attributes) (here (Some needs) there ∙ ap entries_in opens)

      found : (o : Option Tree) → value_at attributes (codes "depends_on") ≡ o → NeedsNone (Map (attributes_kept enabled services attributes (option_map out-Tree o)))
      found None there = none_there (Map attributes) (here None there)
      found (Some needs) there = opened needs (out-Tree needs) refl there

  service_needs : (service : Tree) → NeedsNone (service_kept enabled services service (out-Tree service))
  service_needs service = at (out-Tree service) refl
    where
      at : (root : Tree-F Tree) → out-Tree service ≡ root → NeedsNone (service_kept enabled services service root)
      at (Tree-F.Map attributes) is = mapping_needs attributes
      at root is = none_there service (needs_by service root is)

  all_need : (es : Entries) → list_all (λ (s : List ℕ × Tree). list_all stays (needs_of s.1)) (map (λ (s : List ℕ × Tree). (s.0, service_kept enabled services s.1 (out-Tree s.1))) es) ≡ true
  all_need [] = refl
  all_need (e ∷ es) =
      ap (λ (b : Bool). b && list_all (λ (s : List ℕ × Tree). list_all stays (needs_of s.1)) (map (λ (s : List ℕ × Tree). (s.0, service_kept enabled services s.1 (out-Tree s.1))) es)) (service_needs e.1) ∙ all_need es

pub need_no_other : ActiveServicesNeedNoOther
need_no_other profiles tree found is =
    let enabled = is_enabled profiles in
    active_cases enabled tree found (λ own kept. list_all (λ service. list_all (λ need. not (is_disabled enabled own need.0)) (needs_of service.1)) kept ≡ true) refl
    (λ services those. all_need enabled services (filter (λ (s : List ℕ × Tree). enabled s.1) services)) is
