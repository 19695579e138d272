-- The words in the page of a project are numbers and flags, and so pass each test that these pass.
use Rattle.std.proofs.Common.{◌≡◌, ◌∙◌, ℕ, ℤ, Bool, true, false, codes, List, [], ◌∷◌, ◌++◌, Option, Some, None, map, refl, ap, rules}
use Rattle.std.proofs.lemmas.Bool.{and_from, and_parts}
use Rattle.std.specs.Fmt.{decimal, signed_decimal}
use Rattle.std.specs.List.{list_all}
use Rattle.std.specs.Option.{option_map_or}
use Rattle.short_forms.specs.MountLaws.{flag_word, type_word}
use Rattle.short_forms.specs.declared.mounts.Mount.{Mount}
use Rattle.short_forms.specs.declared.ports.Port.{Port}
use Rattle.attribute_paths.proofs.Trees.{of_every}
use Rattle.attribute_paths.proofs.Trees as every
use Rattle.attribute_types.specs.declared.attribute.Attribute.{Attribute}
use Rattle.attribute_types.specs.declared.attribute.Value.{Value}
use Rattle.attribute_types.specs.declared.rows.Dependency.{Dependency}
use Rattle.attribute_types.specs.declared.rows.FileUse.{FileUse}
use Rattle.attribute_types.specs.declared.rows.HealthCheck.{HealthCheck}
use Rattle.attribute_types.specs.declared.rows.Logging.{Logging}
use Rattle.attribute_types.specs.declared.rows.NetworkUse.{NetworkUse}
use Rattle.attribute_types.specs.declared.rows.Ulimit.{Ulimit}
use Rattle.typed_project.specs.declared.network.Network.{Network}
use Rattle.typed_project.specs.declared.project.FileItem.{FileItem}
use Rattle.typed_project.specs.declared.project.Project.{Project}
use Rattle.typed_project.specs.declared.service.Service.{Service}
use Rattle.typed_project.specs.declared.volume.Volume.{Volume}
use Rattle.tree_base.specs.declared.tree.Tree.{Tree}
use Rattle.tree_base.specs.declared.tree.Tree as trees
use Rattle.tree_base.specs.declared.tree.Tree.TheVariants as tree
use Rattle.project_pages.specs.AttributePages.{Shown, aliases_node, attribute_entry, attributes_node, bool_node, check_node, condition_word, dependency_entry, duration_node, file_entry, file_use_node, if_any, if_there, if_true, kept_node, label_node, logging_node, mount_node, network_entry, network_use_entry, number_node, pair_entry, pairs_node, port_node, project_node, service_entry, texts_node, ulimit_entry, value_node, volume_entry}
use Rattle.laws_pages.proofs.Nodes.{words_in, words_map, words_null, words_seq, words_text, words_word}
use Rattle.laws_pages.specs.Words.{PassesWords, all_words}
use Rattle.project_print.specs.declared.node.Node.{Node}
use Rattle.project_print.specs.declared.node.Node.TheVariants.{Map, Null, Seq, Text, Word}

-- what is shown of a mapping that is kept
kept_null : kept_node tree.Null ≡ Null
kept_null = search (rules, trees.the_lemmas)

kept_scalar : (text : List ℕ) → kept_node (tree.Scalar text) ≡ Text text
kept_scalar text = search (rules, trees.the_lemmas)

abbrev kept_entry : List ℕ × Tree → List ℕ × Node
kept_entry e = (e.0, kept_node e.1)

kept_map : (es : List (List ℕ × Tree)) → kept_node (tree.Map es) ≡ Map (map kept_entry es)
kept_map es = search (rules, trees.the_lemmas)

kept_seq : (xs : List Tree) → kept_node (tree.Seq xs) ≡ Seq (map kept_node xs)
kept_seq xs = search (rules, trees.the_lemmas)

kept_reset : kept_node tree.Reset ≡ Null
kept_reset = search (rules, trees.the_lemmas)

kept_override : (inner : Tree) → kept_node (tree.Override inner) ≡ kept_node inner
kept_override inner = search (rules, trees.the_lemmas)

module _ (test : List ℕ → Bool) (passes : PassesWords test) where
  -- entries and items whose words pass
  abbrev Fine : Shown → Type 0
  Fine es = list_all (λ is. is) (words_in test es) ≡ true

  with_entry : (name : List ℕ) (node : Node) (es : Shown) → all_words test node ≡ true → Fine es → Fine ((name, node) ∷ es)
  with_entry name node es one more = and_from (all_words test node) (list_all (λ is. is) (words_in test es)) one more

  with_all : (es fs : Shown) → Fine es → Fine fs → Fine (es ++ fs)
  with_all [] fs first second = second
  with_all (e ∷ es) fs first second =
      let parts = and_parts (all_words test e.1) (list_all (λ is. is) (words_in test es)) first in
      and_from (all_words test e.1) (list_all (λ is. is) (words_in test (es ++ fs))) parts.0 (with_all es fs parts.1 second)

  mapping : (es : Shown) → Fine es → all_words test (Map es) ≡ true
  mapping es fine = words_map test es ∙ fine

  module _ {X : Type 0} where
    there : (name : List ℕ) (show : X → Node) → ((x : X) → all_words test (show x) ≡ true) → (found : Option X)
        → Fine (if_there name show found)
    there name show each None = refl
    there name show each (Some x) = with_entry name (show x) [] (each x) refl

    any : (name : List ℕ) (show : List X → Node) → ((xs : List X) → all_words test (show xs) ≡ true) → (xs : List X)
        → Fine (if_any name show xs)
    any name show each [] = refl
    any name show each (x ∷ xs) = with_entry name (show (x ∷ xs)) [] (each (x ∷ xs)) refl

    entries : (f : X → List ℕ × Node) → ((x : X) → all_words test (f x).1 ≡ true) → (xs : List X) → Fine (map f xs)
    entries f each [] = refl
    entries f each (x ∷ xs) = and_from (all_words test (f x).1) (list_all (λ is. is) (words_in test (map f xs))) (each x) (entries f each xs)

    items : (f : X → Node) → ((x : X) → all_words test (f x) ≡ true) → (xs : List X)
        → list_all (λ is. is) (map (all_words test) (map f xs)) ≡ true
    items f each [] = refl
    items f each (x ∷ xs) = and_from (all_words test (f x)) (list_all (λ is. is) (map (all_words test) (map f xs))) (each x) (items f each xs)

    mapped : (f : X → List ℕ × Node) → ((x : X) → all_words test (f x).1 ≡ true) → (xs : List X)
        → all_words test (Map (map f xs)) ≡ true
    mapped f each xs = mapping (map f xs) (entries f each xs)

    listed : (f : X → Node) → ((x : X) → all_words test (f x) ≡ true) → (xs : List X) → all_words test (Seq (map f xs)) ≡ true
    listed f each xs = words_seq test (map f xs) ∙ items f each xs

  flag : (name : List ℕ) (b : Bool) → Fine (if_true name b)
  flag name true = with_entry name (Word (codes "true")) [] (words_word test (codes "true") ∙ passes.flag true) refl
  flag name false = refl

  bool_words : (b : Bool) → all_words test (bool_node b) ≡ true
  bool_words b = words_word test (flag_word b) ∙ passes.flag b

  number_words : (n : ℕ) → all_words test (number_node n) ≡ true
  number_words n = words_word test (decimal n) ∙ passes.number n

  int_words : (z : ℤ) → all_words test (Word (signed_decimal z)) ≡ true
  int_words z = words_word test (signed_decimal z) ∙ passes.integer z

  texts_words : (texts : List (List ℕ)) → all_words test (texts_node texts) ≡ true
  texts_words texts = listed Text (words_text test) texts

  pair_words : (pair : List ℕ × Option (List ℕ)) → all_words test (pair_entry pair).1 ≡ true
  pair_words pair = at pair.1
    where
      at : (o : Option (List ℕ)) → all_words test (option_map_or Text o Null) ≡ true
      at None = words_null test
      at (Some text) = words_text test text

  pairs_words : (pairs : List (List ℕ × Option (List ℕ))) → all_words test (pairs_node pairs) ≡ true
  pairs_words pairs = mapped pair_entry pair_words pairs

  -- a mapping that is kept has no words
  abbrev Kept : Tree → Type 0
  Kept tree = all_words test (kept_node tree) ≡ true

  kept_entries : (es : List (List ℕ × Tree)) → every.OfAll (λ (e : List ℕ × Tree). Kept e.1) es → Fine (map kept_entry es)
  kept_entries [] all = refl
  kept_entries (e ∷ es) all = with_entry e.0 (kept_node e.1) (map kept_entry es) all.0 (kept_entries es all.1)

  kept_items : (xs : List Tree) → every.OfAll Kept xs → list_all (λ is. is) (map (all_words test) (map kept_node xs)) ≡ true
  kept_items [] all = refl
  kept_items (x ∷ xs) all = and_from (all_words test (kept_node x)) (list_all (λ is. is) (map (all_words test) (map kept_node xs))) all.0 (kept_items xs all.1)

  kept_words : (tree : Tree) → Kept tree
  kept_words =
      of_every Kept (ap (all_words test) kept_null ∙ words_null test) (λ text. ap (all_words test) (kept_scalar text) ∙ words_text test text)
      (λ es all. ap (all_words test) (kept_map es) ∙ mapping (map kept_entry es) (kept_entries es all))
      (λ xs all. ap (all_words test) (kept_seq xs) ∙ words_seq test (map kept_node xs) ∙ kept_items xs all)
      (ap (all_words test) kept_reset ∙ words_null test) (λ inner is. ap (all_words test) (kept_override inner) ∙ is)

  ulimit_words : (limit : Ulimit) → all_words test (ulimit_entry limit).1 ≡ true
  ulimit_words limit =
      mapping _ (with_entry (codes "hard") (Word (signed_decimal limit.hard)) ((codes "soft", Word (signed_decimal limit.soft)) ∷ []) (int_words limit.hard)
      (with_entry (codes "soft") (Word (signed_decimal limit.soft)) [] (int_words limit.soft) refl))

  logging_words : (logging : Logging) → all_words test (logging_node logging) ≡ true
  logging_words logging =
      mapping _ (with_all (if_there (codes "driver") Text logging.driver) (if_any (codes "options") pairs_node logging.options)
      (there (codes "driver") Text (words_text test) logging.driver) (any (codes "options") pairs_node pairs_words logging.options))

  port_words : (port : Port) → all_words test (port_node port) ≡ true
  port_words port =
      mapping _ (with_all (if_there (codes "host_ip") Text port.host_ip) _ (there (codes "host_ip") Text (words_text test) port.host_ip)
      (with_entry (codes "protocol") (Text port.protocol) (if_there (codes "published") Text port.published ++ (codes "target", number_node port.target) ∷ []) (words_text test port.protocol)
      (with_all (if_there (codes "published") Text port.published) _ (there (codes "published") Text (words_text test) port.published)
      (with_entry (codes "target") (number_node port.target) [] (number_words port.target) refl))))

  label_words : (label : List ℕ) → all_words test (label_node label) ≡ true
  label_words label = mapping _ (with_entry (codes "selinux") (Text label) [] (words_text test label) refl)

  mount_words : (mount : Mount) → all_words test (mount_node mount) ≡ true
  mount_words mount =
      mapping _ (with_all (if_there (codes "bind") label_node mount.selinux) _ (there (codes "bind") label_node label_words mount.selinux)
      (with_all (if_true (codes "read_only") mount.read_only) _ (flag (codes "read_only") mount.read_only)
      (with_all (if_there (codes "source") Text mount.source) _ (there (codes "source") Text (words_text test) mount.source)
      (with_entry (codes "target") (Text mount.target) ((codes "type", Text (type_word mount.kind)) ∷ []) (words_text test mount.target)
      (with_entry (codes "type") (Text (type_word mount.kind)) [] (words_text test (type_word mount.kind)) refl)))))

  file_use_words : (file : FileUse) → all_words test (file_use_node file) ≡ true
  file_use_words file =
      mapping _ (with_all (if_there (codes "gid") Text file.gid) _ (there (codes "gid") Text (words_text test) file.gid)
      (with_all (if_there (codes "mode") Text file.mode) _ (there (codes "mode") Text (words_text test) file.mode)
      (with_entry (codes "source") (Text file.source) ((codes "target", Text file.target) ∷ if_there (codes "uid") Text file.uid) (words_text test file.source)
      (with_entry (codes "target") (Text file.target) (if_there (codes "uid") Text file.uid) (words_text test file.target) (there (codes "uid") Text (words_text test) file.uid)))))

  aliases_words : (aliases : List (List ℕ)) → all_words test (aliases_node aliases) ≡ true
  aliases_words [] = words_null test
  aliases_words (a ∷ aliases) = mapping _ (with_entry (codes "aliases") (texts_node (a ∷ aliases)) [] (texts_words (a ∷ aliases)) refl)

  network_use_words : (joined : NetworkUse) → all_words test (network_use_entry joined).1 ≡ true
  network_use_words joined = aliases_words joined.aliases

  duration_words : (micros : ℕ) → all_words test (duration_node micros) ≡ true
  duration_words micros = words_text test _

  check_words : (check : HealthCheck) → all_words test (check_node check) ≡ true
  check_words check =
      mapping _ (with_all (if_there (codes "disable") bool_node check.disable) _ (there (codes "disable") bool_node bool_words check.disable)
      (with_all (if_there (codes "interval") duration_node check.interval) _ (there (codes "interval") duration_node duration_words check.interval)
      (with_all (if_there (codes "retries") number_node check.retries) _ (there (codes "retries") number_node number_words check.retries)
      (with_all (if_there (codes "start_interval") duration_node check.start_interval) _ (there (codes "start_interval") duration_node duration_words check.start_interval)
      (with_all (if_there (codes "start_period") duration_node check.start_period) _ (there (codes "start_period") duration_node duration_words check.start_period)
      (with_all (if_there (codes "test") texts_node check.test) _ (there (codes "test") texts_node texts_words check.test)
      (there (codes "timeout") duration_node duration_words check.timeout)))))))

  dependency_words : (need : Dependency) → all_words test (dependency_entry need).1 ≡ true
  dependency_words need =
      mapping _ (with_entry (codes "condition") (Text (condition_word need.condition)) ((codes "required", bool_node need.required) ∷ if_true (codes "restart") need.restart) (words_text test (condition_word need.condition))
      (with_entry (codes "required") (bool_node need.required) (if_true (codes "restart") need.restart) (bool_words need.required) (flag (codes "restart") need.restart)))

  value_words : (value : Value) → all_words test (value_node value) ≡ true
  value_words (Value.Text text) = words_text test text
  value_words (Value.Bool given) = bool_words given
  value_words (Value.Num number) = number_words number
  value_words (Value.Int number) = int_words number
  value_words (Value.List texts) = texts_words texts
  value_words (Value.Pairs pairs) = pairs_words pairs
  value_words (Value.Argv words) = texts_words words
  value_words (Value.Duration micros) = duration_words micros
  value_words (Value.Size bytes) = number_words bytes
  value_words (Value.Decimal billionths) = words_text test _
  value_words (Value.Port port) = number_words port
  value_words (Value.Kept tree) = kept_words tree
  value_words (Value.Ulimits limits) = mapped ulimit_entry ulimit_words limits
  value_words (Value.Logging logging) = logging_words logging
  value_words (Value.Ports ports) = listed port_node port_words ports
  value_words (Value.Mounts mounts) = listed mount_node mount_words mounts
  value_words (Value.Files files) = listed file_use_node file_use_words files
  value_words (Value.Networks networks) = mapped network_use_entry network_use_words networks
  value_words (Value.HealthCheck check) = check_words check
  value_words (Value.Dependencies needs) = mapped dependency_entry dependency_words needs

  pub attributes_words : (attributes : List Attribute) → all_words test (attributes_node attributes) ≡ true
  attributes_words attributes = mapped attribute_entry (λ attribute. value_words attribute.value) attributes

  file_words : (item : FileItem) → all_words test (file_entry item).1 ≡ true
  file_words item = mapping _ (with_entry (codes "file") (Text item.file) [] (words_text test item.file) refl)

  files_words : (files : List FileItem) → all_words test (Map (map file_entry files)) ≡ true
  files_words files = mapped file_entry file_words files

  networks_words : (networks : List Network) → all_words test (Map (map network_entry networks)) ≡ true
  networks_words networks = mapped network_entry (λ network. attributes_words network.attributes) networks

  volumes_words : (volumes : List Volume) → all_words test (Map (map volume_entry volumes)) ≡ true
  volumes_words volumes = mapped volume_entry (λ volume. attributes_words volume.attributes) volumes

  services_words : (services : List Service) → all_words test (Map (map service_entry services)) ≡ true
  services_words services = mapped service_entry (λ service. attributes_words service.attributes) services

  -- the sections behind the name, and those behind the secrets
  abbrev last_sections : Project → Shown
  last_sections project =
      (codes "services", Map (map service_entry project.services))
      ∷ if_any (codes "volumes") (λ volumes. Map (map volume_entry volumes)) project.volumes

  abbrev later_sections : Project → Shown
  later_sections project =
      if_any (codes "networks") (λ networks. Map (map network_entry networks)) project.networks
      ++ (if_any (codes "secrets") (λ secrets. Map (map file_entry secrets)) project.secrets ++ last_sections project)

  last_words : (project : Project) → Fine (last_sections project)
  last_words project =
      with_entry (codes "services") (Map (map service_entry project.services)) (if_any (codes "volumes") (λ volumes. Map (map volume_entry volumes)) project.volumes)
      (services_words project.services) (any (codes "volumes") (λ volumes. Map (map volume_entry volumes)) volumes_words project.volumes)

  later_words : (project : Project) → Fine (later_sections project)
  later_words project =
      with_all (if_any (codes "networks") (λ networks. Map (map network_entry networks)) project.networks)
      (if_any (codes "secrets") (λ secrets. Map (map file_entry secrets)) project.secrets ++ last_sections project)
      (any (codes "networks") (λ networks. Map (map network_entry networks)) networks_words project.networks)
      (with_all (if_any (codes "secrets") (λ secrets. Map (map file_entry secrets)) project.secrets) (last_sections project)
      (any (codes "secrets") (λ secrets. Map (map file_entry secrets)) files_words project.secrets) (last_words project))

  -- and those of a project
  pub project_words : (project : Project) → all_words test (project_node project) ≡ true
  project_words project =
      let configs = if_any (codes "configs") (λ configs. Map (map file_entry configs)) project.configs in
      let named : Shown = (codes "name", Text project.name) ∷ later_sections project in
      mapping (configs ++ named)
      (with_all configs named (any (codes "configs") (λ configs. Map (map file_entry configs)) files_words project.configs)
      (with_entry (codes "name") (Text project.name) (later_sections project) (words_text test project.name) (later_words project)))
