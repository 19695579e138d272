-- A model all of whose services are enabled stays.
use Rattle.std.proofs.Common.{◌≡◌, ◌∙◌, ℕ, Bool, true, false, cond, not, ◌&&◌, List, [], ◌∷◌, None, Some, Ok, codes, filter, map, refl, ap, sym}
use Rattle.std.specs.Prelude.{Option, is_some}
use Rattle.std.specs.List.{list_all}
use Rattle.std.specs.Option.{option_and_then, option_map, option_map_or}
use Rattle.std.specs.Str.{bytes_eq}
use Rattle.active_services.specs.Laws.{EnabledModelsStay, services_of}
use Rattle.active_services.specs.Profiles.{Entries, active_by, active_in, attributes_kept, entries_in, first_refusal, is_disabled, is_enabled, is_optional, is_refused, is_unmet, needs_kept, needs_of, service_kept, services_kept, unless_refused, unmet_need, with_services}
use Rattle.active_services.specs.declared.refusal.ActiveRefusal.{ActiveRefusal}
use Rattle.active_services.proofs.Mappings.{map_out, put_same}
use Rattle.active_services.proofs.Models.{services_by, under}
use Rattle.tree_base.specs.ByteOrder.{least_by}
use Rattle.tree_base.specs.Entries.{value_at, with_entry}
use Rattle.tree_base.specs.declared.tree.Tree.{Tree, out-Tree}
use Rattle.tree_base.specs.declared.tree.Tree.TheOpen.{Tree-F}
use Rattle.tree_base.specs.declared.tree.Tree.TheVariants.{Map}

neither : (b : Bool) → (b && false) ≡ false
neither true = refl
neither false = refl

module _ (enabled : Tree → Bool) where
  abbrev AllAre : Entries → Type 0
  AllAre services = list_all (λ (s : List ℕ × Tree). enabled s.1) services ≡ true

  found_enabled : (services : Entries) (name : List ℕ) → AllAre services → is_disabled enabled services name ≡ false
  found_enabled [] name all = refl
  found_enabled (e ∷ services) name all = by (bytes_eq name e.0) (enabled e.1) refl (found_enabled services name) all
    where
      by : (same it : Bool) → enabled e.1 ≡ it → (AllAre services → is_disabled enabled services name ≡ false) → (it && list_all (λ (s : List ℕ × Tree). enabled s.1) services) ≡ true
          → option_map_or (λ service. not (enabled service)) (cond same (Some e.1) (value_at services name)) false ≡ false
      by same false is rest all = absurd (cc all)
      by true true is rest all = ap not is
      by false true is rest all = rest all

  kept_all : (services : Entries) → AllAre services → filter (λ (s : List ℕ × Tree). enabled s.1) services ≡ services
  kept_all [] all = refl
  kept_all (e ∷ services) all = by (enabled e.1) (kept_all services) all
    where
      by : (it : Bool) → (AllAre services → filter (λ (s : List ℕ × Tree). enabled s.1) services ≡ services) → (it && list_all (λ (s : List ℕ × Tree). enabled s.1) services) ≡ true
          → cond it (e ∷ filter (λ (s : List ℕ × Tree). enabled s.1) services) (filter (λ (s : List ℕ × Tree). enabled s.1) services) ≡ e ∷ services
      by false rest all = absurd (cc all)
      by true rest all = ap (λ l. e ∷ l) (rest all)

  module _ (services : Entries) (all : AllAre services) where
    none_disabled : (name : List ℕ) → is_disabled enabled services name ≡ false
    none_disabled name = found_enabled services name all

    needs_stay : (needs : Entries) → needs_kept enabled services needs ≡ needs
    needs_stay [] = refl
    needs_stay (n ∷ needs) = ap (λ b. cond (not b) (n ∷ needs_kept enabled services needs) (needs_kept enabled services needs)) (none_disabled n.0) ∙ ap (λ l. n ∷ l) (needs_stay needs)

    none_unmet : (needs : Entries) → filter (is_unmet enabled services) needs ≡ []
    none_unmet [] = refl
    none_unmet (n ∷ needs) =
        ap (λ b. cond (b && not (is_optional n.1)) (n ∷ filter (is_unmet enabled services) needs) (filter (is_unmet enabled services) needs)) (none_disabled n.0) ∙ none_unmet needs

    no_need : (service : Tree) → unmet_need enabled services service ≡ None
    no_need service = ap (least_by (λ (n : List ℕ × Tree). n.0)) (none_unmet (needs_of service))

    unrefused : (service : Tree) → is_refused enabled services service ≡ false
    unrefused service = ap (λ (o : Option (List ℕ × Tree)). enabled service && is_some o) (no_need service) ∙ neither (enabled service)

    none_refused : (es : Entries) → filter (λ (s : List ℕ × Tree). is_refused enabled services s.1) es ≡ []
    none_refused [] = refl
    none_refused (e ∷ es) =
        ap (λ b. cond b (e ∷ filter (λ (s : List ℕ × Tree). is_refused enabled services s.1) es) (filter (λ (s : List ℕ × Tree). is_refused enabled services s.1) es)) (unrefused e.1) ∙ none_refused es

    no_refusal : first_refusal enabled services ≡ None
    no_refusal =
        ap (λ (l : Entries). option_and_then (λ (s : List ℕ × Tree). option_map (λ (n : List ℕ × Tree). ActiveRefusal.DependencyDisabled s.0 n.0) (unmet_need enabled services s.1)) (least_by (λ (s : List ℕ × Tree). s.0) l)) (none_refused services)

    attributes_stay : (attributes : Entries) → attributes_kept enabled services attributes (option_map out-Tree (value_at attributes (codes "depends_on"))) ≡ attributes
    attributes_stay attributes = found (value_at attributes (codes "depends_on")) refl
      where
        opened : (needs : Tree) (tree : Tree-F Tree) → out-Tree needs ≡ tree → value_at attributes (codes "depends_on") ≡ Some needs → attributes_kept enabled services attributes (Some tree) ≡ attributes
        opened needs (Tree-F.Map entries) is there =
            ap (λ (l : Entries). with_entry attributes (codes "depends_on") (Map l)) (needs_stay entries) ∙ put_same attributes (codes "depends_on") (Map entries) (there ∙ ap (λ (t : Tree). Some t) (map_out needs entries is))
        opened needs tree is there = refl

        found : (o : Option Tree) → value_at attributes (codes "depends_on") ≡ o → attributes_kept enabled services attributes (option_map out-Tree o) ≡ attributes
        found None is = refl
        found (Some needs) is = opened needs (out-Tree needs) refl is

    service_stays : (service : Tree) → service_kept enabled services service (out-Tree service) ≡ service
    service_stays service = at (out-Tree service) refl
      where
        at : (tree : Tree-F Tree) → out-Tree service ≡ tree → service_kept enabled services service tree ≡ service
        at (Tree-F.Map attributes) is = ap (λ (l : Entries). Map l) (attributes_stay attributes) ∙ sym (map_out service attributes is)
        at tree is = refl

    each_stays : (es : Entries) → map (λ (s : List ℕ × Tree). (s.0, service_kept enabled services s.1 (out-Tree s.1))) es ≡ es
    each_stays [] = refl
    each_stays (e ∷ es) = λ i. (e.0, service_stays e.1 i) ∷ each_stays es i

    services_stay : services_kept enabled services ≡ services
    services_stay = ap (map (λ (s : List ℕ × Tree). (s.0, service_kept enabled services s.1 (out-Tree s.1)))) (kept_all services all) ∙ each_stays services

  model_stays : (tree : Tree) (model : Entries) → out-Tree tree ≡ Tree-F.Map model → AllAre (services_of tree) → active_by enabled tree model (option_map out-Tree (value_at model (codes "services"))) ≡ Ok tree
  model_stays tree model is all = found (value_at model (codes "services")) refl
    where
      same : services_of tree ≡ under (value_at model (codes "services"))
      same = services_by tree (Tree-F.Map model) is

      opened : (kept : Tree) (root : Tree-F Tree) → out-Tree kept ≡ root → value_at model (codes "services") ≡ Some kept → active_by enabled tree model (Some root) ≡ Ok tree
      opened kept (Tree-F.Map services) opens there =
          let those : services_of tree ≡ services = same ∙ ap under there ∙ ap entries_in opens in
          let enabled_all : AllAre services = ap (list_all (λ (s : List ℕ × Tree). enabled s.1)) (sym those) ∙ all in
          ap (λ (o : Option ActiveRefusal). unless_refused o (with_services model (services_kept enabled services))) (no_refusal services enabled_all)
          ∙ ap (λ (l : Entries). Ok (with_services model l)) (services_stay services enabled_all)
          ∙ ap (λ (l : Entries). Ok (Map l)) (put_same model (codes "services") (Map services) (there ∙ ap (λ (t : Tree). Some t) (map_out kept services opens)))
          ∙ ap (λ (t : Tree). Ok t) (sym (map_out tree model is))
      opened kept root opens there = refl

      found : (o : Option Tree) → value_at model (codes "services") ≡ o → active_by enabled tree model (option_map out-Tree o) ≡ Ok tree
      found None there = refl
      found (Some kept) there = opened kept (out-Tree kept) refl there

  tree_stays : (tree : Tree) → AllAre (services_of tree) → active_in enabled tree (out-Tree tree) ≡ Ok tree
  tree_stays tree all = at (out-Tree tree) refl
    where
      at : (root : Tree-F Tree) → out-Tree tree ≡ root → active_in enabled tree root ≡ Ok tree
      at (Tree-F.Map model) is = model_stays tree model is all
      at root is = refl

pub models_stay : EnabledModelsStay
models_stay profiles tree all = tree_stays (is_enabled profiles) tree all
