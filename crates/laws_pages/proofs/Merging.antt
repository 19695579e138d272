-- The tree of a project is in long forms, and as the only file it is merged to itself.
use Rattle.std.proofs.Common.{◌≡◌, ◌∙◌, ◌≤◌, ◌&&◌, ℕ, suc, Bool, true, false, cond, List, [], ◌∷◌, ◌++◌, map, Some, Ok, codes, refl, sym, ap, rules, arith, true≢false}
use Rattle.std.proofs.lemmas.Bool.{le-leb}
use Rattle.std.proofs.lemmas.List.{append-nil, append_assoc}
use Rattle.std.proofs.lemmas.Slice.Eq.{bytes_eq-Decides}
use Rattle.std.specs.List.{flat_map, list_all, list_any, zip}
use Rattle.std.specs.Map.{keys_of, values_of}
use Rattle.std.specs.Prelude.{slice_get}
use Rattle.std.specs.Str.{bytes_eq}
use Rattle.attribute_paths.proofs.Trees.{OfAll}
use Rattle.attribute_paths.specs.Patterns.{Pattern, any_key, below_key, here, named}
use Rattle.file_paths.specs.Resolving.{Entries}
use Rattle.merge_tables.proofs.Answering.{goes_on}
use Rattle.long_forms.proofs.Lengthening.{entries_whole, map_long, parts, values_go}
use Rattle.merge_rules.proofs.Unchanged.{files_stand}
use Rattle.merge_rules.specs.Alone.{led_to, no_twins}
use Rattle.merge_tables.specs.Parts.{entries_in}
use Rattle.merge_tables.specs.Answers.{under, within}
use Rattle.merge_tables.specs.Attributes.{JoiningRules, ShortRules, overlay_rules, short_rules}
use Rattle.merge_rules.specs.Laws.{are_apart, no_mark, own_keys}
use Rattle.long_forms.specs.LongForms.{lengthened, long_forms, text_long, values_long}
use Rattle.merge_rules.specs.Overlay.{over_files}
use Rattle.merge_tables.specs.Spots.{service_forms, services_forms}
use Rattle.merge_tables.specs.declared.rules.Joining.{Joining}
use Rattle.laws_pages.specs.PlainTrees.{entry_of, tree_of_project}
use Rattle.laws_pages.proofs.Placing.{attributes, elements}
use Rattle.laws_pages.proofs.Projects.{not_before_itself}
use Rattle.typed_project.specs.PlainProjects.{AreInOrder, PlainProject, PlainService}
use Rattle.tree_base.specs.ByteOrder.{is_before}
use Rattle.tree_base.specs.Trees.{node_count, text_size}
use Rattle.tree_base.specs.declared.Step.TheVariants.{Key}
use Rattle.tree_base.specs.declared.tree.Tree.{Tree, the_lemmas}
use Rattle.tree_base.specs.declared.tree.Tree.TheOpen.{Tree-F}
use Rattle.tree_base.specs.declared.tree.Tree.TheVariants.{Map, Null, Scalar, outs-Map}

-- a value that is in long forms by the lines that hold there
abbrev Keeps : ShortRules → List ℕ × Tree → Type 0
Keeps lines entry = lengthened entry.1 (below_key entry.0 lines) ≡ Ok entry.1

scalar_long : (text : List ℕ) (lines : ShortRules) → lengthened (Scalar text) lines ≡ Ok (text_long (here lines) text)
scalar_long text lines = search (rules, the_lemmas)

values_stay : (lines : ShortRules) (es : Entries) (done : List Tree) → OfAll (Keeps lines) es → values_long lines done (parts es) ≡ Ok (done ++ values_of es)
values_stay lines [] done keep = ap Ok (sym (append-nil done))
values_stay lines (e ∷ es) done keep =
    values_go lines done e.0 e.1 e.1 (parts es) (ap (under (Key e.0)) keep.0)
    ∙ values_stay lines es (done ++ e.1 ∷ []) keep.1
    ∙ ap Ok (append_assoc done (e.1 ∷ []) (values_of es))

-- so is a mapping of such values
map_stays : (lines : ShortRules) (es : Entries) → OfAll (Keeps lines) es → lengthened (Map es) lines ≡ Ok (Map es)
map_stays lines es keep =
    map_long es lines
    ∙ goes_on (values_long lines [] (parts es)) (λ (all : List Tree). Ok (Map (zip (keys_of es) all))) (values_of es) (values_stay lines es [] keep)
    ∙ ap (λ (l : Entries). Ok (Map l)) (entries_whole es)

-- an image and a network's mode have no short form
service_long : (service : PlainService) → lengthened (Map (attributes service)) service_forms ≡ Ok (Map (attributes service))
unfolding short_rules services_forms service_forms
service_long service =
    map_stays service_forms (attributes service)
    (scalar_long service.image (below_key (codes "image") service_forms), (scalar_long (codes "none") (below_key (codes "network_mode") service_forms), tt))

services_keep : (services : List PlainService) → OfAll (Keeps services_forms) (map entry_of services)
unfolding short_rules services_forms service_forms
services_keep [] = tt
services_keep (service ∷ services) = (service_long service, services_keep services)

services_long : (services : List PlainService) → lengthened (Map (map entry_of services)) services_forms ≡ Ok (Map (map entry_of services))
services_long services = map_stays services_forms (map entry_of services) (services_keep services)

project_long : (project : PlainProject) → lengthened (tree_of_project project) short_rules ≡ Ok (tree_of_project project)
unfolding short_rules services_forms
project_long project =
    map_stays short_rules (elements project) (scalar_long project.name (below_key (codes "name") short_rules), (services_long project.services, tt))

-- a mapping without marks, by its values
abbrev cleans : Entries → List (List ℕ × Bool)
cleans es = map (λ (e : List ℕ × Tree). (e.0, no_mark e.1)) es

map_clean : (es : Entries) → no_mark (Map es) ≡ list_all (λ is. is) (values_of (cleans es))
map_clean es = search (rules, the_lemmas)

scalar_clean : (text : List ℕ) → no_mark (Scalar text) ≡ true
scalar_clean text = search (rules, the_lemmas)

service_clean : (service : PlainService) → no_mark (Map (attributes service)) ≡ true
service_clean service = map_clean (attributes service) ∙ rw (scalar_clean service.image, scalar_clean (codes "none")) refl

services_clean : (services : List PlainService) → list_all (λ is. is) (values_of (cleans (map entry_of services))) ≡ true
services_clean [] = refl
services_clean (service ∷ services) = rw (service_clean service) (services_clean services)

pub project_clean : (project : PlainProject) → no_mark (tree_of_project project) ≡ true
project_clean project = map_clean (elements project) ∙ rw (scalar_clean project.name, map_clean (map entry_of project.services), services_clean project.services) refl

-- a mapping with keys of its own, by its values
abbrev owns : Entries → List (List ℕ × Bool)
owns es = map (λ (e : List ℕ × Tree). (e.0, own_keys e.1)) es

map_own : (es : Entries) → own_keys (Map es) ≡ (are_apart (keys_of (owns es)) && list_all (λ is. is) (values_of (owns es)))
map_own es = search (rules, the_lemmas)

scalar_own : (text : List ℕ) → own_keys (Scalar text) ≡ true
scalar_own text = search (rules, the_lemmas)

service_own : (service : PlainService) → own_keys (Map (attributes service)) ≡ true
service_own service = map_own (attributes service) ∙ rw (scalar_own service.image, scalar_own (codes "none")) refl

-- what another is before differs from it
differs : (one other : List ℕ) → is_before one other ≡ true → bytes_eq other one ≡ false
differs one other before = by (bytes_eq other one) refl
  where
    by : (b : Bool) → bytes_eq other one ≡ b → b ≡ false
    by true e = let same = (bytes_eq-Decides other one).0 e in absurd (true≢false (sym before ∙ ap (is_before one) same ∙ not_before_itself one))
    by false e = refl

none_same : (key : List ℕ) (services : List PlainService) → ((at : ℕ) (other : PlainService) → slice_get services at ≡ Some other → is_before key other.key ≡ true)
    → list_any (λ other. bytes_eq other key) (keys_of (owns (map entry_of services))) ≡ false
none_same key [] before = refl
none_same key (service ∷ services) before =
    rw (differs key service.key (before 0 service refl)) (none_same key services (λ at other e. before (suc at) other e))

-- services in order have different keys
services_own : (services : List PlainService) → AreInOrder services → (are_apart (keys_of (owns (map entry_of services))) ≡ true) × (list_all (λ is. is) (values_of (owns (map entry_of services))) ≡ true)
services_own [] order = (refl, refl)
services_own (service ∷ services) order =
    let more = services_own services (λ i j one other less e f. order (suc i) (suc j) one other (omega (arith, less)) e f) in (
      rw (none_same service.key services (λ at other e. order 0 (suc at) service other (omega arith) refl e)) more.0,
      rw (service_own service) more.1,
    )

project_own : (project : PlainProject) → AreInOrder project.services → own_keys (tree_of_project project) ≡ true
project_own project order =
    let services = services_own project.services order in
    map_own (elements project) ∙ rw (scalar_own project.name, map_own (map entry_of project.services), services.0, services.1) refl

-- no line leads to an attribute of a service that has an image and a network's mode alone
module _ (name : List ℕ) (more : Pattern) (no_image : bytes_eq name (codes "image") ≡ false) (no_mode : bytes_eq name (codes "network_mode") ≡ false) where
  abbrev below : List ℕ × Tree → List Tree
  below entry = cond (bytes_eq name entry.0) (led_to more entry.1) []

  in_service : (service : PlainService) → led_to (named name ∷ more) (Map (attributes service)) ≡ []
  in_service service = ap (λ (tree : Tree-F Tree). flat_map below (entries_in tree)) (outs-Map (attributes service)) ∙ rw (no_image, no_mode) refl

  in_services : (services : List PlainService) → flat_map (λ (entry : List ℕ × Tree). led_to (named name ∷ more) entry.1) (map entry_of services) ≡ []
  in_services [] = refl
  in_services (service ∷ services) = rw (in_service service) (in_services services)

  leads_nowhere : (project : PlainProject) → led_to (named (codes "services") ∷ any_key ∷ named name ∷ more) (tree_of_project project) ≡ []
  leads_nowhere project =
      let services : Entries = map entry_of project.services in
      ap (λ (tree : Tree-F Tree). flat_map (λ (entry : List ℕ × Tree). cond (bytes_eq (codes "services") entry.0) (led_to (any_key ∷ named name ∷ more) entry.1) []) (entries_in tree)) (outs-Map (elements project))
      ∙ ap (λ (tree : Tree-F Tree). flat_map (λ (entry : List ℕ × Tree). led_to (named name ∷ more) entry.1) (entries_in tree) ++ []) (outs-Map services)
      ∙ rw (in_services project.services) refl

-- where no line leads anywhere nothing stands twice
alone : (tree : Tree) (lines : JoiningRules) → OfAll (λ (line : Pattern × Joining). led_to line.0 tree ≡ []) lines → no_twins lines tree ≡ true
alone tree [] nowhere = refl
alone tree (line ∷ lines) nowhere = rw nowhere.0 (alone tree lines nowhere.1)

project_alone : (project : PlainProject) → no_twins overlay_rules (tree_of_project project) ≡ true
unfolding overlay_rules
project_alone project =
    alone (tree_of_project project) overlay_rules (
      leads_nowhere (codes "command") [] refl refl project,
      (
        leads_nowhere (codes "entrypoint") [] refl refl project,
        (
          leads_nowhere (codes "healthcheck") (named (codes "test") ∷ []) refl refl project,
          (leads_nowhere (codes "ports") [] refl refl project, (leads_nowhere (codes "volumes") [] refl refl project, (leads_nowhere (codes "secrets") [] refl refl project, (leads_nowhere (codes "configs") [] refl refl project, tt)))),
        ),
      ),
    )

module _ (project : PlainProject) (nodes : node_count (tree_of_project project) ≤ 200000) (text : text_size (tree_of_project project) ≤ 16777216) where
  pub is_within : within (tree_of_project project) ≡ Ok (tree_of_project project)
  is_within = rw (le-leb (node_count (tree_of_project project)) 200000 nodes, le-leb (text_size (tree_of_project project)) 16777216 text) refl

  pub page_long : long_forms (tree_of_project project) ≡ Ok (tree_of_project project)
  unfolding long_forms
  page_long = goes_on (lengthened (tree_of_project project) short_rules) within (tree_of_project project) (project_long project) ∙ is_within

  pub page_alone : AreInOrder project.services → over_files Null (tree_of_project project) ≡ Ok (tree_of_project project)
  page_alone order = files_stand (tree_of_project project) (project_clean project) (project_own project order) (project_alone project) ∙ is_within
