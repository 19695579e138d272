-- What a page shows of a value means its tree.
use Rattle.std.proofs.Common.{◌≡◌, ◌∙◌, ℕ, ℤ, Bool, true, false, List, [], ◌∷◌, ◌++◌, map, codes, Option, Some, None, refl, ap, sym, rules}
use Rattle.std.specs.Option.{option_map, option_map_or}
use Rattle.std.specs.List.{list_all}
use Rattle.std.specs.Map.{values_of}
use Rattle.std.proofs.lemmas.Bool.{and_parts}
use Rattle.std.specs.Fmt.{decimal, signed_decimal}
use Rattle.short_forms.specs.MountLaws.{flag_word, type_word}
use Rattle.short_forms.specs.Printed.{duration_text}
use Rattle.short_forms.specs.declared.mounts.Mount.{Mount}
use Rattle.short_forms.specs.declared.ports.Port.{Port}
use Rattle.tree_base.specs.declared.tree.Tree as trees
use Rattle.tree_base.specs.declared.tree.Tree.{Tree}
use Rattle.tree_base.specs.declared.tree.Tree.TheVariants as tree
use Rattle.attribute_types.specs.declared.attribute.Attribute.{Attribute}
use Rattle.attribute_types.specs.declared.attribute.Value.{Value}
use Rattle.attribute_types.specs.declared.rows.Dependency.{Dependency}
use Rattle.attribute_types.specs.declared.rows.DependencyCondition.{DependencyCondition}
use Rattle.attribute_types.specs.declared.rows.FileUse.{FileUse}
use Rattle.attribute_types.specs.declared.rows.HealthCheck.{HealthCheck}
use Rattle.attribute_types.specs.declared.rows.Logging.{Logging}
use Rattle.attribute_types.specs.declared.rows.NetworkUse.{NetworkUse}
use Rattle.attribute_types.specs.declared.rows.Ulimit.{Ulimit}
use Rattle.attribute_scalars.specs.Lists as lists
use Rattle.merge_rules.specs.Laws.{no_mark}
use Rattle.project_pages.specs.AttributePages.{Shown, aliases_node, bool_node, check_node, condition_word, dependency_entry, duration_node, file_use_node, if_any, if_there, if_true, kept_node, label_node, logging_node, mount_node, network_use_entry, number_node, pair_entry, pairs_node, port_node, texts_node, ulimit_entry, value_node}
use Rattle.project_print.specs.Values.{value_of}
use Rattle.project_print.specs.declared.node.Node as nodes
use Rattle.project_print.specs.declared.node.Node.{Node}
use Rattle.project_print.specs.declared.node.Node.TheVariants.{Map, Null, Seq, Text, Word}
use Rattle.attribute_paths.proofs.Trees.{OfAll, of_every}
use Rattle.laws_attributes.proofs.Gifts.{shown_by}
use Rattle.laws_attributes.proofs.Shown.{Rows, aliases_tree, check_rows, condition_text, file_rows, flag_value, label_tree, leaf, logging_rows, mount_leaf, mount_rows, mount_tree, need_rows, need_tree, network_tree, pair_tree, plain_tree, port_rows, present, rows_tree, ulimit_tree}

abbrev value_entry : List ℕ × Node → List ℕ × Tree
value_entry e = (e.0, value_of e.1)

value_null : value_of Null ≡ tree.Null
value_null = search (rules, nodes.the_lemmas)

value_word : (text : List ℕ) → value_of (Word text) ≡ tree.Scalar text
value_word text = search (rules, nodes.the_lemmas)

value_text : (text : List ℕ) → value_of (Text text) ≡ tree.Scalar text
value_text text = search (rules, nodes.the_lemmas)

value_map : (es : List (List ℕ × Node)) → value_of (Map es) ≡ tree.Map (map value_entry es)
value_map es = search (rules, nodes.the_lemmas)

value_seq : (xs : List Node) → value_of (Seq xs) ≡ tree.Seq (map value_of xs)
value_seq xs = search (rules, nodes.the_lemmas)

module _ {X : Type 0} where
  items_made : (f : X → Node) (g : X → Tree) → ((x : X) → value_of (f x) ≡ g x) → (xs : List X) → map value_of (map f xs) ≡ map g xs
  items_made f g h [] = refl
  items_made f g h (x ∷ xs) = (λ i. h x i ∷ items_made f g h xs i)

  entries_made : (f : X → List ℕ × Node) (g : X → List ℕ × Tree) → ((x : X) → value_entry (f x) ≡ g x) → (xs : List X) → map value_entry (map f xs) ≡ map g xs
  entries_made f g h [] = refl
  entries_made f g h (x ∷ xs) = (λ i. h x i ∷ entries_made f g h xs i)

texts_mean : (texts : List (List ℕ)) → value_of (texts_node texts) ≡ tree.Seq (map tree.Scalar texts)
texts_mean texts = value_seq (map Text texts) ∙ ap tree.Seq (items_made Text tree.Scalar value_text texts)

pair_means : (pair : List ℕ × Option (List ℕ)) → value_entry (pair_entry pair) ≡ pair_tree pair
pair_means pair = at pair.1
  where
    at : (o : Option (List ℕ)) → value_entry (pair.0, option_map_or Text o Null) ≡ (pair.0, option_map_or tree.Scalar o tree.Null)
    at None = (λ i. (pair.0, value_null i))
    at (Some text) = (λ i. (pair.0, value_text text i))

pairs_mean : (pairs : List (List ℕ × Option (List ℕ))) → value_of (pairs_node pairs) ≡ tree.Map (map pair_tree pairs)
pairs_mean pairs = value_map (map pair_entry pairs) ∙ ap tree.Map (entries_made pair_entry pair_tree pair_means pairs)

-- kept mappings
kept_null : kept_node tree.Null ≡ Null
kept_null = search (rules, trees.the_lemmas)

kept_scalar : (text : List ℕ) → kept_node (tree.Scalar text) ≡ Text text
kept_scalar text = search (rules, trees.the_lemmas)

abbrev kept_entry : List ℕ × Tree → List ℕ × Node
kept_entry e = (e.0, kept_node e.1)

kept_map : (es : List (List ℕ × Tree)) → kept_node (tree.Map es) ≡ Map (map kept_entry es)
kept_map es = search (rules, trees.the_lemmas)

kept_seq : (xs : List Tree) → kept_node (tree.Seq xs) ≡ Seq (map kept_node xs)
kept_seq xs = search (rules, trees.the_lemmas)

map_opens : (es : List (List ℕ × Tree)) → no_mark (tree.Map es) ≡ list_all (λ is. is) (values_of (map (λ (e : List ℕ × Tree). (e.0, no_mark e.1)) es))
map_opens es = search (rules, trees.the_lemmas)

seq_opens : (xs : List Tree) → no_mark (tree.Seq xs) ≡ list_all (λ is. is) (map no_mark xs)
seq_opens xs = search (rules, trees.the_lemmas)

reset_marked : no_mark tree.Reset ≡ false
reset_marked = search (rules, trees.the_lemmas)

override_marked : (inner : Tree) → no_mark (tree.Override inner) ≡ false
override_marked inner = search (rules, trees.the_lemmas)

each_value : (es : List (List ℕ × Tree)) → list_all (λ is. is) (values_of (map (λ (e : List ℕ × Tree). (e.0, no_mark e.1)) es)) ≡ true → OfAll (λ (e : List ℕ × Tree). no_mark e.1 ≡ true) es
each_value [] h = tt
each_value (e ∷ es) h =
    let p = and_parts (no_mark e.1) (list_all (λ is. is) (values_of (map (λ (e : List ℕ × Tree). (e.0, no_mark e.1)) es))) h in (p.0, each_value es p.1)

each_item : (xs : List Tree) → list_all (λ is. is) (map no_mark xs) ≡ true → OfAll (λ (x : Tree). no_mark x ≡ true) xs
each_item [] h = tt
each_item (x ∷ xs) h = let p = and_parts (no_mark x) (list_all (λ is. is) (map no_mark xs)) h in (p.0, each_item xs p.1)

-- no mark stands in what stands in a mapping without marks
pub entries_unmarked : (es : List (List ℕ × Tree)) → no_mark (tree.Map es) ≡ true → OfAll (λ (e : List ℕ × Tree). no_mark e.1 ≡ true) es
entries_unmarked es h = each_value es (sym (map_opens es) ∙ h)

pub items_unmarked : (xs : List Tree) → no_mark (tree.Seq xs) ≡ true → OfAll (λ (x : Tree). no_mark x ≡ true) xs
items_unmarked xs h = each_item xs (sym (seq_opens xs) ∙ h)

abbrev Means : Tree → Type 0
Means t = no_mark t ≡ true → value_of (kept_node t) ≡ t

entries_mean : (es : List (List ℕ × Tree)) → OfAll (λ (e : List ℕ × Tree). Means e.1) es → OfAll (λ (e : List ℕ × Tree). no_mark e.1 ≡ true) es → map value_entry (map kept_entry es) ≡ es
entries_mean [] h n = refl
entries_mean (e ∷ es) h n = (λ i. (e.0, h.0 n.0 i) ∷ entries_mean es h.1 n.1 i)

items_mean : (xs : List Tree) → OfAll Means xs → OfAll (λ (x : Tree). no_mark x ≡ true) xs → map value_of (map kept_node xs) ≡ xs
items_mean [] h n = refl
items_mean (x ∷ xs) h n = (λ i. h.0 n.0 i ∷ items_mean xs h.1 n.1 i)

-- a tree without marks that is kept means itself
pub kept_means : (t : Tree) → no_mark t ≡ true → value_of (kept_node t) ≡ t
kept_means = of_every Means
    (λ n. ap value_of kept_null ∙ value_null)
    (λ text n. ap value_of (kept_scalar text) ∙ value_text text)
    (λ es h n. ap value_of (kept_map es) ∙ value_map (map kept_entry es) ∙ ap tree.Map (entries_mean es h (entries_unmarked es n)))
    (λ xs h n. ap value_of (kept_seq xs) ∙ value_seq (map kept_node xs) ∙ ap tree.Seq (items_mean xs h (items_unmarked xs n)))
    (λ n. let bad : false ≡ true = sym reset_marked ∙ n in absurd (cc bad))
    (λ inner h n. let bad : false ≡ true = sym (override_marked inner) ∙ n in absurd (cc bad))

-- rows, each with what is shown of it
module _ (shape : Attribute → Tree) where
  there_shown : {X : Type 0} (name : List ℕ) (show : X → Node) (make : X → Value) → ((x : X) → value_of (show x) ≡ shape (record { name = name; value = make x }))
      → (o : Option X) (more : Shown) (rows : Rows) → map value_entry more ≡ shown_by shape (present rows)
      → map value_entry (if_there name show o ++ more) ≡ shown_by shape (present ((name, option_map make o) ∷ rows))
  there_shown name show make h None more rows same = same
  there_shown name show make h (Some x) more rows same = (λ i. (name, h x i) ∷ same i)

  there_last : {X : Type 0} (name : List ℕ) (show : X → Node) (make : X → Value) → ((x : X) → value_of (show x) ≡ shape (record { name = name; value = make x }))
      → (o : Option X) → map value_entry (if_there name show o) ≡ shown_by shape (present ((name, option_map make o) ∷ []))
  there_last name show make h None = refl
  there_last name show make h (Some x) = (λ i. (name, h x i) ∷ [])

  true_shown : (name : List ℕ) → tree.Scalar (codes "true") ≡ shape (record { name = name; value = Value.Bool true }) → (b : Bool) (more : Shown) (rows : Rows) → map value_entry more ≡ shown_by shape (present rows)
      → map value_entry (if_true name b ++ more) ≡ shown_by shape (present ((name, flag_value b) ∷ rows))
  true_shown name h true more rows same = (λ i. (name, (value_word (codes "true") ∙ h) i) ∷ same i)
  true_shown name h false more rows same = same

  true_last : (name : List ℕ) → tree.Scalar (codes "true") ≡ shape (record { name = name; value = Value.Bool true }) → (b : Bool)
      → map value_entry (if_true name b) ≡ shown_by shape (present ((name, flag_value b) ∷ []))
  true_last name h true = (λ i. (name, (value_word (codes "true") ∙ h) i) ∷ [])
  true_last name h false = refl

-- the rows behind the first
abbrev behind : Rows → Rows
behind [] = []
behind (row ∷ rows) = rows

logging_means : (logging : Logging) → value_of (logging_node logging) ≡ rows_tree (logging_rows logging)
logging_means logging =
    value_map (if_there (codes "driver") Text logging.driver ++ if_any (codes "options") pairs_node logging.options)
    ∙ ap tree.Map (there_shown leaf (codes "driver") Text Value.Text value_text logging.driver (if_any (codes "options") pairs_node logging.options) (behind (logging_rows logging)) (at logging.options))
  where
    at : (pairs : List (List ℕ × Option (List ℕ))) → map value_entry (if_any (codes "options") pairs_node pairs) ≡ shown_by leaf (present ((codes "options", option_map Value.Pairs (lists.if_any pairs)) ∷ []))
    at [] = refl
    at (p ∷ ps) = (λ i. (codes "options", pairs_mean (p ∷ ps) i) ∷ [])

ulimit_node_means : (hard soft : ℤ) → value_of (Map ((codes "hard", Word (signed_decimal hard)) ∷ (codes "soft", Word (signed_decimal soft)) ∷ []))
    ≡ tree.Map ((codes "hard", tree.Scalar (signed_decimal hard)) ∷ (codes "soft", tree.Scalar (signed_decimal soft)) ∷ [])
ulimit_node_means hard soft =
    value_map ((codes "hard", Word (signed_decimal hard)) ∷ (codes "soft", Word (signed_decimal soft)) ∷ [])
    ∙ (λ i. tree.Map ((codes "hard", value_word (signed_decimal hard) i) ∷ (codes "soft", value_word (signed_decimal soft) i) ∷ []))

ulimit_means : (limit : Ulimit) → value_entry (ulimit_entry limit) ≡ ulimit_tree limit
ulimit_means limit = (λ i. (limit.key, ulimit_node_means limit.hard limit.soft i))

port_means : (port : Port) → value_of (port_node port) ≡ rows_tree (port_rows port)
port_means port =
    value_map _
    ∙ ap tree.Map
    (there_shown leaf (codes "host_ip") Text Value.Text value_text port.host_ip
    ((codes "protocol", Text port.protocol) ∷ (if_there (codes "published") Text port.published ++ (codes "target", number_node port.target) ∷ []))
    (behind (port_rows port))
    (λ i. (codes "protocol", value_text port.protocol i) ∷ published i))
  where
    published : map value_entry (if_there (codes "published") Text port.published ++ (codes "target", number_node port.target) ∷ []) ≡ shown_by leaf (present (behind (behind (port_rows port))))
    published =
        there_shown leaf (codes "published") Text Value.Text value_text port.published ((codes "target", number_node port.target) ∷ []) ((codes "target", Some (Value.Port port.target)) ∷ [])
        (λ i. (codes "target", value_word (decimal port.target) i) ∷ [])

label_means : (label : List ℕ) → value_of (label_node label) ≡ label_tree (Value.Text label)
label_means label = value_map ((codes "selinux", Text label) ∷ []) ∙ (λ i. tree.Map ((codes "selinux", value_text label i) ∷ []))

mount_means : (mount : Mount) → value_of (mount_node mount) ≡ mount_tree mount
mount_means mount =
    value_map _
    ∙ ap tree.Map
    (there_shown mount_leaf (codes "bind") label_node Value.Text label_means mount.selinux _ (behind (mount_rows mount))
    (true_shown mount_leaf (codes "read_only") refl mount.read_only _ (behind (behind (mount_rows mount)))
    (there_shown mount_leaf (codes "source") Text Value.Text value_text mount.source ((codes "target", Text mount.target) ∷ (codes "type", Text (type_word mount.kind)) ∷ [])
    ((codes "target", Some (Value.Text mount.target)) ∷ (codes "type", Some (Value.Text (type_word mount.kind))) ∷ [])
    (λ i. (codes "target", value_text mount.target i) ∷ (codes "type", value_text (type_word mount.kind) i) ∷ []))))

file_means : (file : FileUse) → value_of (file_use_node file) ≡ rows_tree (file_rows file)
file_means file =
    value_map _
    ∙ ap tree.Map
    (there_shown leaf (codes "gid") Text Value.Text value_text file.gid _ (behind (file_rows file))
    (there_shown leaf (codes "mode") Text Value.Text value_text file.mode ((codes "source", Text file.source) ∷ (codes "target", Text file.target) ∷ if_there (codes "uid") Text file.uid) (behind (behind (file_rows file)))
    (λ i. (codes "source", value_text file.source i) ∷ (codes "target", value_text file.target i) ∷ there_last leaf (codes "uid") Text Value.Text value_text file.uid i)))

aliases_mean : (aliases : List (List ℕ)) → value_of (aliases_node aliases) ≡ aliases_tree aliases
aliases_mean [] = value_null
aliases_mean (a ∷ others) = value_map ((codes "aliases", texts_node (a ∷ others)) ∷ []) ∙ (λ i. tree.Map ((codes "aliases", texts_mean (a ∷ others) i) ∷ []))

network_means : (joined : NetworkUse) → value_entry (network_use_entry joined) ≡ network_tree joined
network_means joined = (λ i. (joined.key, aliases_mean joined.aliases i))

check_means : (check : HealthCheck) → value_of (check_node check) ≡ rows_tree (check_rows check)
check_means check =
    let r1 : Rows = behind (check_rows check) in
    let r2 : Rows = behind r1 in
    let r3 : Rows = behind r2 in
    let r4 : Rows = behind r3 in
    let r5 : Rows = behind r4 in
    let r6 : Rows = behind r5 in
    value_map _
    ∙ ap tree.Map
    (there_shown leaf (codes "disable") bool_node Value.Bool (λ b. value_word (flag_word b)) check.disable _ r1
    (there_shown leaf (codes "interval") duration_node Value.Duration (λ n. value_text (duration_text n)) check.interval _ r2
    (there_shown leaf (codes "retries") number_node Value.Num (λ n. value_word (decimal n)) check.retries _ r3
    (there_shown leaf (codes "start_interval") duration_node Value.Duration (λ n. value_text (duration_text n)) check.start_interval _ r4
    (there_shown leaf (codes "start_period") duration_node Value.Duration (λ n. value_text (duration_text n)) check.start_period _ r5
    (there_shown leaf (codes "test") texts_node Value.Argv texts_mean check.test _ r6
    (there_last leaf (codes "timeout") duration_node Value.Duration (λ n. value_text (duration_text n)) check.timeout)))))))

condition_same : (condition : DependencyCondition) → condition_word condition ≡ condition_text condition
condition_same DependencyCondition.Started = refl
condition_same DependencyCondition.Healthy = refl
condition_same DependencyCondition.Completed = refl

need_rows_mean : (need : Dependency) → map value_entry ((codes "condition", Text (condition_word need.condition)) ∷ (codes "required", bool_node need.required) ∷ if_true (codes "restart") need.restart)
    ≡ shown_by leaf (present (need_rows need))
need_rows_mean need =
    let condition : value_of (Text (condition_word need.condition)) ≡ tree.Scalar (condition_text need.condition) = value_text (condition_word need.condition) ∙ ap tree.Scalar (condition_same need.condition) in
    (λ i. (codes "condition", condition i) ∷ (codes "required", value_word (flag_word need.required) i) ∷ true_last leaf (codes "restart") refl need.restart i)

need_node_means : (need : Dependency) → value_of (Map ((codes "condition", Text (condition_word need.condition)) ∷ (codes "required", bool_node need.required) ∷ if_true (codes "restart") need.restart)) ≡ rows_tree (need_rows need)
need_node_means need =
    value_map ((codes "condition", Text (condition_word need.condition)) ∷ (codes "required", bool_node need.required) ∷ if_true (codes "restart") need.restart) ∙ ap tree.Map (need_rows_mean need)

need_means : (need : Dependency) → value_entry (dependency_entry need) ≡ need_tree need
need_means need = (λ i. (need.key, need_node_means need i))

-- a value that is kept has no mark
abbrev pub IsUnmarked : Value → Type 0
IsUnmarked (Value.Kept t) = no_mark t ≡ true
IsUnmarked value = Unit {0}

-- what a page shows of a value means its tree
pub node_means : (value : Value) → IsUnmarked value → value_of (value_node value) ≡ plain_tree value
node_means (Value.Text text) h = value_text text
node_means (Value.Bool given) h = value_word _
node_means (Value.Num number) h = value_word _
node_means (Value.Int number) h = value_word _
node_means (Value.List texts) h = texts_mean texts
node_means (Value.Pairs pairs) h = pairs_mean pairs
node_means (Value.Argv words) h = texts_mean words
node_means (Value.Duration micros) h = value_text _
node_means (Value.Size bytes) h = value_word _
node_means (Value.Decimal billionths) h = value_text _
node_means (Value.Port port) h = value_word _
node_means (Value.Kept t) h = kept_means t h
node_means (Value.Ulimits limits) h = value_map _ ∙ ap tree.Map (entries_made ulimit_entry ulimit_tree ulimit_means limits)
node_means (Value.Logging logging) h = logging_means logging
node_means (Value.Ports ports) h = value_seq _ ∙ ap tree.Seq (items_made port_node (λ port. rows_tree (port_rows port)) port_means ports)
node_means (Value.Mounts mounts) h = value_seq _ ∙ ap tree.Seq (items_made mount_node mount_tree mount_means mounts)
node_means (Value.Files files) h = value_seq _ ∙ ap tree.Seq (items_made file_use_node (λ file. rows_tree (file_rows file)) file_means files)
node_means (Value.Networks networks) h = value_map _ ∙ ap tree.Map (entries_made network_use_entry network_tree network_means networks)
node_means (Value.HealthCheck check) h = check_means check
node_means (Value.Dependencies needs) h = value_map _ ∙ ap tree.Map (entries_made dependency_entry need_tree need_means needs)
