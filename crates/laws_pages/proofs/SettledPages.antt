-- In the page of a project nothing is left to load, where each variable of its environments has a value.
use Rattle.std.proofs.Common.{◌≡◌, ◌∙◌, ℕ, Bool, true, false, cond, All, List, [], ◌∷◌, ◌++◌, Option, Some, None, codes, map, refl, sym, ap, subst, inl, inr}
use Rattle.std.proofs.lemmas.Bool.{and_parts}
use Rattle.std.proofs.lemmas.List.Elements.{All-cons, All-nil}
use Rattle.std.specs.Prelude.{is_some, unwrap_or}
use Rattle.std.specs.List.{list_all}
use Rattle.std.specs.Map.{keys_of}
use Rattle.std.specs.Option.{option_and_then, option_map, option_or}
use Rattle.std.specs.Str.{bytes_eq}
use Rattle.laws_attributes.proofs.Declaring.{section_at}
use Rattle.laws_attributes.specs.Accepted.{services_in}
use Rattle.laws_attributes.specs.ReadBack.{entries_shown}
use Rattle.attribute_scalars.specs.Walks.{Entries}
use Rattle.attribute_types.specs.Lookups.{as_pairs}
use Rattle.attribute_types.specs.Values as values
use Rattle.attribute_types.specs.declared.attribute.Attribute.{Attribute}
use Rattle.attribute_types.specs.declared.attribute.Value.{Value}
use Rattle.file_paths.specs.Paths.{Variables}
use Rattle.file_paths.specs.Shapes.{entries_at, entries_in}
use Rattle.laws_loading.specs.Loads.{IsSettledThroughout}
use Rattle.merge_rules.specs.Laws.{are_apart, own_keys}
use Rattle.laws_loading.specs.Settled.{IsSet, IsSettledService}
use Rattle.laws_pages.proofs.Declared.{AreGood, GoodOut, IsGood, good_entries, good_out, good_section}
use Rattle.laws_pages.proofs.Each.{Each, each-map, map-map}
use Rattle.laws_pages.proofs.Finding.{value-append}
use Rattle.laws_pages.proofs.PageElements.{any, elements, item_shown, page_out, services_section}
use Rattle.laws_pages.proofs.SettledBack.{value_entry, value_map, value_text}
use Rattle.laws_pages.proofs.ShownAttributes.{shown_value}
use Rattle.project_pages.specs.AttributePages.{attribute_entry, attributes_node, file_entry, network_entry, pair_entry, service_entry, value_node, volume_entry}
use Rattle.project_print.specs.Values.{value_of}
use Rattle.project_print.specs.declared.node.Node.{Node}
use Rattle.project_print.specs.declared.node.Node.TheVariants as nodes
use Rattle.tree_base.specs.Entries.{value_at}
use Rattle.tree_base.specs.declared.tree.Tree.{Tree}
use Rattle.tree_base.specs.declared.tree.Tree.TheOpen.{Tree-F}
use Rattle.tree_base.specs.declared.tree.Tree.TheVariants.{Map, Scalar, outs-Map}
use Rattle.typed_project.specs.declared.project.Project.{Project}
use Rattle.typed_project.specs.declared.service.Service.{Service}
use Rattle.laws_pages.proofs.TypedServices.{AreTyped, IsTyped, no_value, variables_there}
use Rattle.laws_pages.specs.Pages.{has_values, page_tree}

abbrev Pairs : Type 0
Pairs = List (List ℕ × Option (List ℕ))

abbrev environment : List ℕ
environment = codes "environment"

-- variables that have values each, as their page shows them
record AreSet (pairs : Pairs) : Type 0 where
  values : Variables
  shown : map value_entry (map pair_entry pairs) ≡ map (λ (v : List ℕ × List ℕ). (v.0, Scalar v.1)) values
  keys : keys_of (map value_entry (map pair_entry pairs)) ≡ keys_of values

are_set : (pairs : Pairs) → list_all (λ pair. is_some pair.1) pairs ≡ true → AreSet pairs
are_set [] h = record { values = []; shown = refl; keys = refl }
are_set ((key, None) ∷ pairs) h = absurd (cc h)
are_set ((key, Some text) ∷ pairs) h =
    let more = are_set pairs h in
    record {
      values = (key, text) ∷ more.values;
      shown = λ i. (key, value_text text i) ∷ more.shown i;
      keys = ap (λ (keys : List (List ℕ)). key ∷ keys) more.keys;
    }

-- the keys of a good mapping differ
owned_keys : (es : Entries) → keys_of (map (λ (e : List ℕ × Tree). (e.0, own_keys e.1)) es) ≡ keys_of es
owned_keys [] = refl
owned_keys (e ∷ es) = ap (λ (keys : List (List ℕ)). e.0 ∷ keys) (owned_keys es)

good_mapping : (es : Entries) → IsGood (Map es) → GoodOut (Tree-F.Map es)
good_mapping es good = subst GoodOut (outs-Map es) (good_out (Map es) good)

keys_apart : (es : Entries) → IsGood (Map es) → are_apart (keys_of es) ≡ true
keys_apart es good = ap are_apart (sym (owned_keys es)) ∙ (and_parts (are_apart (keys_of (map (λ (e : List ℕ × Tree). (e.0, own_keys e.1)) es))) _ (good_mapping es good).1).0

-- what stands in one is good
good_there : (es : Entries) (key : List ℕ) (tree : Tree) → AreGood es → value_at es key ≡ Some tree → IsGood tree
good_there [] key tree good e = absurd (cc e)
good_there (entry ∷ es) key tree good e = at (bytes_eq key entry.0) (good_there es key tree good.1) e
  where
    at : (b : Bool) → (value_at es key ≡ Some tree → IsGood tree) → cond b (Some entry.1) (value_at es key) ≡ Some tree → IsGood tree
    at true more f = let same : entry.1 ≡ tree = cc f in subst IsGood same good.0
    at false more f = more f

-- a service that is shown, whose variables have values
module _ (attributes : List Attribute) (typed : Each IsTyped attributes) (valued : list_all (λ pair. is_some pair.1) (unwrap_or (option_and_then as_pairs (values.value_at attributes environment)) []) ≡ true)
    (good : IsGood (Map (entries_shown attributes))) where
  none_shown : (key : List ℕ) → Each (λ (a : Attribute). bytes_eq a.name key ≡ false) attributes → value_at (entries_shown attributes) key ≡ None
  none_shown key h = shown_value attributes key ∙ ap (option_map (λ value. value_of (value_node value))) (no_value key attributes h)

  is_set : IsSet (value_at (entries_shown attributes) environment)
  is_set = by (values.value_at attributes environment) refl
    where
      by : (o : Option Value) → values.value_at attributes environment ≡ o → IsSet (value_at (entries_shown attributes) environment)
      by None e = inl (shown_value attributes environment ∙ ap (option_map (λ value. value_of (value_node value))) e)
      by (Some value) e =
          let p = variables_there attributes value typed e in
          let is : values.value_at attributes environment ≡ Some (Value.Pairs p.0) = e ∙ ap (λ (v : Value). Some v) p.1 in
          let all : list_all (λ pair. is_some pair.1) p.0 ≡ true = sym (ap (λ (o : Option Value). list_all (λ pair. is_some pair.1) (unwrap_or (option_and_then as_pairs o) [])) is) ∙ valued in
          let set = are_set p.0 all in
          let entries : Entries = map value_entry (map pair_entry p.0) in
          let there : value_at (entries_shown attributes) environment ≡ Some (Map entries) =
          shown_value attributes environment ∙ ap (option_map (λ value. value_of (value_node value))) is ∙ ap (λ (t : Tree). Some t) (value_map (map pair_entry p.0)) in
          let good_one : IsGood (Map entries) = good_there (entries_shown attributes) environment (Map entries) (good_entries (entries_shown attributes) (good_mapping (entries_shown attributes) good)) there in
          inr (set.values, there ∙ ap (λ (es : Entries). Some (Map es)) set.shown, ap are_apart (sym set.keys) ∙ keys_apart entries good_one)

service_settled : (service : Service) → AreTyped service → has_values service ≡ true → IsGood (value_of (attributes_node service.attributes)) → IsSettledService (value_of (attributes_node service.attributes))
service_settled service typed valued good =
    let attributes : List Attribute = service.attributes in
    let is : value_of (attributes_node attributes) ≡ Map (entries_shown attributes) = value_map (map attribute_entry attributes) ∙ ap Map (map-map value_entry attribute_entry attributes) in
    let good_one : IsGood (Map (entries_shown attributes)) = subst IsGood is good in (
      entries_shown attributes,
      is,
      none_shown attributes typed valued good_one (codes "extends") (each-map IsTyped (λ (a : Attribute). bytes_eq a.name (codes "extends") ≡ false) (λ a t. t.no_extends) attributes typed),
      none_shown attributes typed valued good_one (codes "env_file") (each-map IsTyped (λ (a : Attribute). bytes_eq a.name (codes "env_file") ≡ false) (λ a t. t.no_env_file) attributes typed),
      is_set attributes typed valued good_one,
    )

all_settled : (services : List Service) → Each AreTyped services → list_all has_values services ≡ true → AreGood (map (item_shown service_entry) services)
    → All (λ (e : List ℕ × Tree). IsSettledService e.1) (map (item_shown service_entry) services)
all_settled [] typed valued good = All-nil (λ (e : List ℕ × Tree). IsSettledService e.1)
all_settled (service ∷ services) typed valued good =
    let parts = and_parts (has_values service) (list_all has_values services) valued in
    All-cons (λ (e : List ℕ × Tree). IsSettledService e.1) (item_shown service_entry service) (map (item_shown service_entry) services)
    (service_settled service typed.0 parts.0 good.0) (all_settled services typed.1 parts.1 good.1)

-- no element of a page includes another file
none_any : {X : Type 0} (name : List ℕ) (entry : X → List ℕ × Node) (items : List X) (key : List ℕ) → bytes_eq key name ≡ false → value_at (any name entry items) key ≡ None
none_any name entry [] key other = refl
none_any name entry (x ∷ xs) key other = ap (λ (b : Bool). cond b (Some (value_of (nodes.Map (map entry (x ∷ xs))))) None) other

both_none : (es os : Entries) (key : List ℕ) → value_at es key ≡ None → value_at os key ≡ None → value_at (es ++ os) key ≡ None
both_none es os key one two = value-append key es os ∙ ap (λ (o : Option Tree). option_or o (value_at os key)) one ∙ two

module _ (project : Project) where
  behind_secrets : value_at ((codes "services", value_of (nodes.Map (map service_entry project.services))) ∷ any (codes "volumes") volume_entry project.volumes) (codes "include") ≡ None
  behind_secrets = none_any (codes "volumes") volume_entry project.volumes (codes "include") refl

  no_include : value_at (elements project) (codes "include") ≡ None
  no_include =
      both_none (any (codes "configs") file_entry project.configs) _ (codes "include") (none_any (codes "configs") file_entry project.configs (codes "include") refl)
      (both_none (any (codes "networks") network_entry project.networks) _ (codes "include") (none_any (codes "networks") network_entry project.networks (codes "include") refl)
      (both_none (any (codes "secrets") file_entry project.secrets) _ (codes "include") (none_any (codes "secrets") file_entry project.secrets (codes "include") refl) behind_secrets))

  services_are : services_in (page_tree project) ≡ map (item_shown service_entry) project.services
  services_are =
      ap (λ (s : Tree-F Tree). entries_at (codes "services") (entries_in s)) (page_out project)
      ∙ sym (section_at (elements project) (codes "services")) ∙ services_section project

  -- nothing is left to load in the page of a project
  pub page_settled : IsGood (page_tree project) → Each AreTyped project.services → list_all has_values project.services ≡ true → IsSettledThroughout (page_tree project)
  page_settled good typed valued =
      let good_elements : AreGood (elements project) = good_entries (elements project) (subst GoodOut (page_out project) (good_out (page_tree project) good)) in
      let good_services : AreGood (map (item_shown service_entry) project.services) = subst AreGood (services_section project) (good_section (elements project) (codes "services") good_elements) in (
        ap (λ (s : Tree-F Tree). value_at (entries_in s) (codes "include")) (page_out project) ∙ no_include,
        subst (λ (es : Entries). All (λ (e : List ℕ × Tree). IsSettledService e.1) es) (sym services_are) (all_settled project.services typed valued good_services),
      )
