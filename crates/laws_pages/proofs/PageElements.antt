-- The elements of a project's page, and what each section declares.
use Rattle.std.proofs.Common.{◌≡◌, ◌∙◌, ℕ, Bool, true, false, cond, List, [], ◌∷◌, ◌++◌, Some, None, Ok, map, codes, refl, sym, ap}
use Rattle.std.specs.Prelude.{Option, if◌then◌else◌}
use Rattle.std.specs.Option.{option_or}
use Rattle.std.specs.Str.{bytes_eq}
use Rattle.std.proofs.lemmas.List.{map-append}
use Rattle.std.proofs.lemmas.Slice.Eq.{bytes_eq-Decides}
use Rattle.tree_base.specs.Answers.{◌>>=◌}
use Rattle.tree_base.specs.Entries.{value_at}
use Rattle.tree_base.specs.declared.Step.TheVariants.{Key}
use Rattle.tree_base.specs.declared.tree.Tree.{Tree, out-Tree}
use Rattle.tree_base.specs.declared.tree.Tree.TheOpen.{Tree-F}
use Rattle.attribute_types.specs.Answers.{refused, under}
use Rattle.attribute_types.specs.declared.attribute.Attribute.{Attribute}
use Rattle.attribute_types.specs.declared.refusal.Fault.{Fault}
use Rattle.attribute_scalars.specs.Walks.{Entries, Read, each_entry, in_byte_order}
use Rattle.attribute_scalars.proofs.KeptKeys.{map-by_key}
use Rattle.typed_project.specs.declared.project.Project.{Project}
use Rattle.project_meaning.specs.Meaning.{all_declared, declared_as, element_form, elements_in, entries_under, is_key, section}
use Rattle.project_pages.specs.AttributePages.{file_entry, if_any, network_entry, project_node, service_entry, volume_entry}
use Rattle.project_print.specs.Values.{value_of}
use Rattle.project_print.specs.declared.node.Node.{Node}
use Rattle.project_print.specs.declared.node.Node.TheVariants.{Map, Text}
use Rattle.laws_pages.proofs.Each.{Each, each-both, each-by_key, map-map}
use Rattle.laws_pages.proofs.Finding.{value-append}
use Rattle.laws_pages.proofs.GivenEntries.{all_back, entry_key, joined}
use Rattle.laws_pages.proofs.Rising.{Rises, by_key_rising}
use Rattle.laws_pages.proofs.SettledBack.{map_seen, text_seen, value_entry}

-- a section of a page, where there is something to show
abbrev pub any : {X : Type 0} → List ℕ → (X → List ℕ × Node) → List X → Entries
any name entry items = map value_entry (if_any name (λ xs. Map (map entry xs)) items)

abbrev configs : List ℕ
configs = codes "configs"

abbrev networks : List ℕ
networks = codes "networks"

abbrev secrets : List ℕ
secrets = codes "secrets"

abbrev services : List ℕ
services = codes "services"

abbrev volumes : List ℕ
volumes = codes "volumes"

-- what is shown of an item
abbrev pub item_shown : {X : Type 0} → (X → List ℕ × Node) → X → List ℕ × Tree
item_shown entry x = value_entry (entry x)

under_map : (es : List (List ℕ × Node)) → entries_under (Some (value_of (Map es))) ≡ map value_entry es
under_map es = rw map_seen refl

or_none : {X : Type 0} (o : Option X) → option_or o None ≡ o
or_none None = refl
or_none (Some x) = refl

module _ {X : Type 0} (name : List ℕ) (entry : X → List ℕ × Node) where
  any_other : (items : List X) (key : List ℕ) → bytes_eq key name ≡ false → value_at (any name entry items) key ≡ None
  any_other [] key other = refl
  any_other (x ∷ xs) key other = ap (λ (b : Bool). cond b (Some (value_of (Map (map entry (x ∷ xs))))) None) other

  any_there : (items : List X) → entries_under (value_at (any name entry items) name) ≡ map (item_shown entry) items
  any_there [] = refl
  any_there (x ∷ xs) =
      ap (λ (b : Bool). entries_under (cond b (Some (value_of (Map (map entry (x ∷ xs))))) None)) ((bytes_eq-Decides name name).1 refl)
      ∙ under_map (map entry (x ∷ xs)) ∙ map-map value_entry entry (x ∷ xs)

  any_passes : ((es : List (List ℕ × Node)) → element_form name (out-Tree (value_of (Map es))) ≡ Ok []) → (items : List X) → Each (λ e. element_form e.0 (out-Tree e.1) ≡ Ok []) (any name entry items)
  any_passes passes [] = tt
  any_passes passes (x ∷ xs) = (passes (map entry (x ∷ xs)), tt)

each-append : {X : Type 0} (P : X → Type 0) (xs ys : List X) → Each P xs → Each P ys → Each P (xs ++ ys)
each-append P [] ys h k = k
each-append P (x ∷ xs) ys h k = (h.0, each-append P xs ys h.1 k)

all_none : {X : Type 0} (read : List ℕ → Tree → Read (List X)) (es : Entries) → Each (λ e. read e.0 e.1 ≡ Ok []) es → each_entry read es ≡ Ok []
all_none read [] h = refl
all_none read (e ∷ es) h = joined read e es [] [] h.0 (all_none read es h.1)

module _ (project : Project) where
  abbrev shown_services : Tree
  shown_services = value_of (Map (map service_entry project.services))

  abbrev last : Entries
  last = (services, shown_services) ∷ any volumes volume_entry project.volumes

  abbrev later : Entries
  later = any networks network_entry project.networks ++ (any secrets file_entry project.secrets ++ last)

  -- the elements of the page
  abbrev pub elements : Entries
  elements = any configs file_entry project.configs ++ (codes "name", value_of (Text project.name)) ∷ later

  abbrev shown_later : List (List ℕ × Node)
  shown_later =
      if_any networks (λ xs. Map (map network_entry xs)) project.networks
      ++ (if_any secrets (λ xs. Map (map file_entry xs)) project.secrets
      ++ (services, Map (map service_entry project.services)) ∷ if_any volumes (λ xs. Map (map volume_entry xs)) project.volumes)

  later_is : map value_entry shown_later ≡ later
  later_is =
      map-append value_entry (if_any networks (λ xs. Map (map network_entry xs)) project.networks)
      (if_any secrets (λ xs. Map (map file_entry xs)) project.secrets ++ (services, Map (map service_entry project.services)) ∷ if_any volumes (λ xs. Map (map volume_entry xs)) project.volumes)
      ∙ ap (λ (l : Entries). any networks network_entry project.networks ++ l)
      (map-append value_entry (if_any secrets (λ xs. Map (map file_entry xs)) project.secrets) ((services, Map (map service_entry project.services)) ∷ if_any volumes (λ xs. Map (map volume_entry xs)) project.volumes))

  pub page_out : out-Tree (value_of (project_node project)) ≡ Tree-F.Map elements
  page_out =
      map_seen (if_any configs (λ xs. Map (map file_entry xs)) project.configs ++ (codes "name", Text project.name) ∷ shown_later)
      ∙ ap Tree-F.Map
      (map-append value_entry (if_any configs (λ xs. Map (map file_entry xs)) project.configs) ((codes "name", Text project.name) ∷ shown_later)
      ∙ ap (λ (l : Entries). any configs file_entry project.configs ++ (codes "name", value_of (Text project.name)) ∷ l) later_is)

  value_elements : (key : List ℕ) → value_at elements key ≡ option_or (value_at (any configs file_entry project.configs) key) (value_at ((codes "name", value_of (Text project.name)) ∷ later) key)
  value_elements key = value-append key (any configs file_entry project.configs) ((codes "name", value_of (Text project.name)) ∷ later)

  value_later : (key : List ℕ)
      → value_at later key ≡ option_or (value_at (any networks network_entry project.networks) key) (option_or (value_at (any secrets file_entry project.secrets) key) (value_at last key))
  value_later key =
      value-append key (any networks network_entry project.networks) (any secrets file_entry project.secrets ++ last)
      ∙ ap (option_or (value_at (any networks network_entry project.networks) key)) (value-append key (any secrets file_entry project.secrets) last)

  no_configs : (key : List ℕ) → bytes_eq key configs ≡ false → value_at elements key ≡ value_at ((codes "name", value_of (Text project.name)) ∷ later) key
  no_configs key other = value_elements key ∙ ap (λ (o : Option Tree). option_or o (value_at ((codes "name", value_of (Text project.name)) ∷ later) key)) (any_other configs file_entry project.configs key other)

  no_networks : (key : List ℕ) → bytes_eq key networks ≡ false → value_at later key ≡ option_or (value_at (any secrets file_entry project.secrets) key) (value_at last key)
  no_networks key other = value_later key ∙ ap (λ (o : Option Tree). option_or o (option_or (value_at (any secrets file_entry project.secrets) key) (value_at last key))) (any_other networks network_entry project.networks key other)

  no_secrets : (key : List ℕ) → bytes_eq key networks ≡ false → bytes_eq key secrets ≡ false → value_at later key ≡ value_at last key
  no_secrets key one two = no_networks key one ∙ ap (λ (o : Option Tree). option_or o (value_at last key)) (any_other secrets file_entry project.secrets key two)

  configs_value : value_at elements configs ≡ value_at (any configs file_entry project.configs) configs
  configs_value =
      value_elements configs
      ∙ ap (option_or (value_at (any configs file_entry project.configs) configs)) (no_secrets configs refl refl ∙ any_other volumes volume_entry project.volumes configs refl)
      ∙ or_none (value_at (any configs file_entry project.configs) configs)

  networks_value : value_at elements networks ≡ value_at (any networks network_entry project.networks) networks
  networks_value =
      no_configs networks refl
      ∙ value_later networks
      ∙ ap (option_or (value_at (any networks network_entry project.networks) networks))
      (ap (λ (o : Option Tree). option_or o (value_at last networks)) (any_other secrets file_entry project.secrets networks refl) ∙ any_other volumes volume_entry project.volumes networks refl)
      ∙ or_none (value_at (any networks network_entry project.networks) networks)

  secrets_value : value_at elements secrets ≡ value_at (any secrets file_entry project.secrets) secrets
  secrets_value =
      no_configs secrets refl
      ∙ no_networks secrets refl
      ∙ ap (option_or (value_at (any secrets file_entry project.secrets) secrets)) (any_other volumes volume_entry project.volumes secrets refl)
      ∙ or_none (value_at (any secrets file_entry project.secrets) secrets)

  services_value : value_at elements services ≡ Some shown_services
  services_value = no_configs services refl ∙ no_secrets services refl refl

  volumes_value : value_at elements volumes ≡ value_at (any volumes volume_entry project.volumes) volumes
  volumes_value = no_configs volumes refl ∙ no_secrets volumes refl refl

  -- what each section declares
  pub configs_section : section elements configs ≡ map (item_shown file_entry) project.configs
  configs_section = ap entries_under configs_value ∙ any_there configs file_entry project.configs

  pub networks_section : section elements networks ≡ map (item_shown network_entry) project.networks
  networks_section = ap entries_under networks_value ∙ any_there networks network_entry project.networks

  pub secrets_section : section elements secrets ≡ map (item_shown file_entry) project.secrets
  secrets_section = ap entries_under secrets_value ∙ any_there secrets file_entry project.secrets

  pub services_section : section elements services ≡ map (item_shown service_entry) project.services
  services_section = ap entries_under services_value ∙ under_map (map service_entry project.services) ∙ map-map value_entry service_entry project.services

  pub volumes_section : section elements volumes ≡ map (item_shown volume_entry) project.volumes
  volumes_section = ap entries_under volumes_value ∙ any_there volumes volume_entry project.volumes

  name_passes : element_form (codes "name") (out-Tree (value_of (Text project.name))) ≡ Ok []
  name_passes = rw text_seen refl

  configs_pass : (es : List (List ℕ × Node)) → element_form configs (out-Tree (value_of (Map es))) ≡ Ok []
  configs_pass es = rw map_seen refl

  networks_pass : (es : List (List ℕ × Node)) → element_form networks (out-Tree (value_of (Map es))) ≡ Ok []
  networks_pass es = rw map_seen refl

  secrets_pass : (es : List (List ℕ × Node)) → element_form secrets (out-Tree (value_of (Map es))) ≡ Ok []
  secrets_pass es = rw map_seen refl

  services_pass : (es : List (List ℕ × Node)) → element_form services (out-Tree (value_of (Map es))) ≡ Ok []
  services_pass es = rw map_seen refl

  volumes_pass : (es : List (List ℕ × Node)) → element_form volumes (out-Tree (value_of (Map es))) ≡ Ok []
  volumes_pass es = rw map_seen refl

  abbrev Passes : List ℕ × Tree → Type 0
  Passes e = element_form e.0 (out-Tree e.1) ≡ Ok []

  all_pass : Each Passes elements
  all_pass =
      each-append Passes (any configs file_entry project.configs) ((codes "name", value_of (Text project.name)) ∷ later) (any_passes configs file_entry configs_pass project.configs) (
        name_passes,
        each-append Passes (any networks network_entry project.networks) (any secrets file_entry project.secrets ++ last) (any_passes networks network_entry networks_pass project.networks)
            (each-append Passes (any secrets file_entry project.secrets) last (any_passes secrets file_entry secrets_pass project.secrets)
            (services_pass (map service_entry project.services), any_passes volumes volume_entry volumes_pass project.volumes)),
      )

  -- each element has its form
  pub elements_pass : elements_in (Tree-F.Map elements) ≡ Ok elements
  elements_pass =
      ap (λ (r : Read (List Attribute)). r >>= λ none. Ok elements)
      (all_none (λ key tree. element_form key (out-Tree tree)) (in_byte_order elements) (each-by_key entry_key Passes elements all_pass))

-- items in byte order of their keys, each read from what is shown of it, are declared by it
pub declared_back : {X : Type 0} (key : X → List ℕ) (shown : X → Tree) (read : List ℕ → Tree-F Tree → Read X) (all : Entries) (name : List ℕ) (items : List X)
    → section all name ≡ map (λ x. (key x, shown x)) items → Rises key items → Each (λ x. is_key (key x) ≡ true) items → Each (λ x. read (key x) (out-Tree (shown x)) ≡ Ok x) items
    → all_declared read all name ≡ Ok items
declared_back {X} key shown read all name items is rise keys reads =
    ap (λ (es : Entries). under (Key name) (each_entry (declared_as read) (in_byte_order es))) is
    ∙ ap (λ (es : Entries). under (Key name) (each_entry (declared_as read) es)) (sym (map-by_key (λ (x : X). (key x, shown x)) entry_key items) ∙ ap (map (λ (x : X). (key x, shown x))) (by_key_rising key items rise))
    ∙ ap (under (Key name)) (all_back key (declared_as read) shown items (each items keys reads))
  where
    each : (xs : List X) → Each (λ x. is_key (key x) ≡ true) xs → Each (λ x. read (key x) (out-Tree (shown x)) ≡ Ok x) xs → Each (λ x. declared_as read (key x) (shown x) ≡ Ok (x ∷ [])) xs
    each xs k r = each-both (λ x. is_key (key x) ≡ true) (λ x. read (key x) (out-Tree (shown x)) ≡ Ok x) (λ x. declared_as read (key x) (shown x) ≡ Ok (x ∷ []))
        (λ x a b. ap (λ (c : Bool). if c then (read (key x) (out-Tree (shown x)) >>= λ y. Ok (y ∷ [])) else refused Fault.BadValue) a ∙ ap (λ (s : Read X). s >>= λ y. Ok (y ∷ [])) b) xs k r
