-- What attributes with attributes of their own, and a service's attributes, give of a tree that is
-- put in order: the same.
use Rattle.std.proofs.Common.{◌≡◌, ◌∙◌, ◌+◌, ℕ, Bool, List, [], ◌∷◌, Some, None, Ok, map, codes, refl, ap}
use Rattle.std.specs.Prelude.{Option, if◌then◌else◌, not, unwrap_or}
use Rattle.std.specs.Option.{option_map}
use Rattle.tree_base.specs.Answers.{◌>>=◌}
use Rattle.tree_base.specs.Entries.{value_at}
use Rattle.tree_base.specs.declared.Step.TheVariants.{Index}
use Rattle.tree_base.specs.declared.Tree.{Tree, out-Tree}
use Rattle.tree_base.specs.declared.Tree.TheOpen.{Tree-F}
use Rattle.attribute_types.specs.Answers.{under}
use Rattle.attribute_types.specs.Tables.{dependency_lines, file_use_lines, form_of, health_lines, logging_lines, mount_lines, network_use_lines, port_lines, ulimit_lines}
use Rattle.attribute_types.specs.declared.attribute.Attribute.{Attribute}
use Rattle.attribute_types.specs.declared.attribute.Value.{Value}
use Rattle.attribute_types.specs.declared.form.Form.{Form}
use Rattle.attribute_types.specs.declared.form.Row.{Row}
use Rattle.attribute_types.specs.declared.rows.NetworkUse.{NetworkUse}
use Rattle.attribute_scalars.specs.Lists.{ordered}
use Rattle.attribute_scalars.specs.Walks.{Entries, Read, each_entry, each_item, in_byte_order, is_given, is_in, is_null, own_entries, place, with_wanting}
use Rattle.attribute_values.specs.Fields.{fields_of, named, unless_null}
use Rattle.attribute_values.specs.Forms.{kept_if_any}
use Rattle.attribute_rows.specs.Attributes.{attribute_by, attribute_under, attributes_from, attributes_of, form_value, wanted_of_service}
use Rattle.attribute_rows.specs.Rows.{Folder, dependency_from, dependency_of, file_use_from, file_use_of, health_from, health_of, in_mapping, keyed, listed, logging_from, logging_of, mount_from, mount_of, network_use_of, of_configs, of_secrets, port_from, port_of, row_value, ulimit_from, ulimit_of, wanted_of_mount}
use Rattle.attribute_types.specs.Lookups.{texts_at}
use Rattle.laws_pages.proofs.OrderedFields.{fields_same, plain_seen, unless_same}
use Rattle.laws_pages.proofs.OrderedForms.{Same, bind_same, null_same, of_tree, walk_same, walk_seen}
use Rattle.laws_pages.proofs.OrderedTrees.{AreOrdered, are_ordered, ordered_entries, out-ordered, own_ordered, wanting_ordered}

-- what entries give whose order doesn't matter
abbrev SameEntries : {X : Type 0} → (Entries → Read X) → Type 0
SameEntries read = (entries others : Entries) → AreOrdered entries others → read entries ≡ read others

mapping_same : {X : Type 0} (read : Entries → Read X) → SameEntries read → Same (in_mapping read)
mapping_same read same Tree-F.Null = refl
mapping_same read same (Tree-F.Scalar text) = refl
mapping_same read same (Tree-F.Map entries) = same (ordered_entries entries) entries (are_ordered entries)
mapping_same read same (Tree-F.Seq items) = refl
mapping_same read same Tree-F.Reset = refl
mapping_same read same (Tree-F.Override inner) = refl

keyed_same : {X : Type 0} (read : List ℕ → Tree-F Tree → Read (List X)) → ((key : List ℕ) → Same (read key)) → Same (keyed read)
keyed_same read same Tree-F.Null = refl
keyed_same read same (Tree-F.Scalar text) = refl
keyed_same read same (Tree-F.Map entries) = walk_seen read same (ordered_entries entries) entries (are_ordered entries)
keyed_same read same (Tree-F.Seq items) = refl
keyed_same read same Tree-F.Reset = refl
keyed_same read same (Tree-F.Override inner) = refl

items_same : {X : Type 0} (read : Tree-F Tree → Read X) → Same read → (at : ℕ) (items : List Tree) → each_item (λ item. read (out-Tree item)) at (map ordered items) ≡ each_item (λ item. read (out-Tree item)) at items
items_same read same at [] = refl
items_same read same at (item ∷ items) =
    (λ i. under (Index (place at)) (of_tree read same item i) >>= λ found. items_same read same (at + 1) items i >>= λ more. Ok (found ∷ more))

listed_same : {X : Type 0} (read : Entries → Read X) → SameEntries read → Same (listed read)
listed_same read same Tree-F.Null = refl
listed_same read same (Tree-F.Scalar text) = refl
listed_same read same (Tree-F.Map entries) = refl
listed_same read same (Tree-F.Seq items) = items_same (in_mapping read) (mapping_same read same) 0 items
listed_same read same Tree-F.Reset = refl
listed_same read same (Tree-F.Override inner) = refl

ulimit_same : (key : List ℕ) → Same (ulimit_of key)
ulimit_same key Tree-F.Null = refl
ulimit_same key (Tree-F.Scalar text) = refl
ulimit_same key (Tree-F.Map entries) =
    ap (λ (r : Read (List Attribute)). r >>= λ attributes. Ok (ulimit_from key attributes))
    (fields_same ulimit_lines (codes "hard" ∷ codes "soft" ∷ []) (ordered_entries entries) entries (are_ordered entries))
ulimit_same key (Tree-F.Seq items) = refl
ulimit_same key Tree-F.Reset = refl
ulimit_same key (Tree-F.Override inner) = refl

logging_same : Same logging_of
logging_same v =
    ap (λ (r : Read (List Attribute)). r >>= λ attributes. Ok (logging_from attributes)) (mapping_same (fields_of logging_lines []) (fields_same logging_lines []) v)

port_same : SameEntries port_of
port_same entries others are = ap (λ (r : Read (List Attribute)). r >>= λ attributes. Ok (port_from attributes)) (fields_same port_lines (codes "target" ∷ []) entries others are)

wanted_same : (entries others : Entries) → AreOrdered entries others → wanted_of_mount entries ≡ wanted_of_mount others
wanted_same entries others are =
    ap (λ (b : Bool). if b then codes "source" ∷ codes "target" ∷ codes "type" ∷ [] else codes "target" ∷ codes "type" ∷ []) (bind_same entries others are)

mount_same : SameEntries mount_of
mount_same entries others are =
    ap (λ (r : Read (List Attribute)). r >>= λ attributes. Ok (mount_from attributes))
    (ap (λ (wanted : List (List ℕ)). fields_of mount_lines wanted entries) (wanted_same entries others are) ∙ fields_same mount_lines (wanted_of_mount others) entries others are)

file_same : (folder : Folder) → SameEntries (file_use_of folder)
file_same folder entries others are =
    ap (λ (r : Read (List Attribute)). r >>= λ attributes. Ok (file_use_from folder attributes)) (fields_same file_use_lines (codes "source" ∷ []) entries others are)

abbrev joins : List ℕ → List (List ℕ) → NetworkUse
joins key aliases = record { key = key; aliases = aliases }

network_same : (key : List ℕ) → Same (network_use_of key)
network_same key Tree-F.Null = refl
network_same key (Tree-F.Scalar text) = refl
network_same key (Tree-F.Map entries) =
    ap (λ (r : Read (List Attribute)). r >>= λ attributes. Ok (joins key (unwrap_or (texts_at attributes (codes "aliases")) []) ∷ []))
    (fields_same network_use_lines [] (ordered_entries entries) entries (are_ordered entries))
network_same key (Tree-F.Seq items) = refl
network_same key Tree-F.Reset = refl
network_same key (Tree-F.Override inner) = refl

health_same : Same health_of
health_same v = ap (λ (r : Read (List Attribute)). r >>= λ attributes. Ok (health_from attributes)) (mapping_same (fields_of health_lines []) (fields_same health_lines []) v)

dependency_same : (key : List ℕ) → Same (dependency_of key)
dependency_same key Tree-F.Null = refl
dependency_same key (Tree-F.Scalar text) = refl
dependency_same key (Tree-F.Map entries) =
    ap (λ (r : Read (List Attribute)). r >>= λ attributes. Ok (dependency_from key attributes ∷ [])) (fields_same dependency_lines [] (ordered_entries entries) entries (are_ordered entries))
dependency_same key (Tree-F.Seq items) = refl
dependency_same key Tree-F.Reset = refl
dependency_same key (Tree-F.Override inner) = refl

row_same : (row : Row) → Same (row_value row)
row_same Row.Ulimits v = ap (kept_if_any Value.Ulimits) (keyed_same ulimit_of ulimit_same v)
row_same Row.Logging v = logging_same v
row_same Row.Ports v = ap (kept_if_any Value.Ports) (listed_same port_of port_same v)
row_same Row.Mounts v = ap (kept_if_any Value.Mounts) (listed_same mount_of mount_same v)
row_same Row.Secrets v = ap (kept_if_any Value.Files) (listed_same (file_use_of of_secrets) (file_same of_secrets) v)
row_same Row.Configs v = ap (kept_if_any Value.Files) (listed_same (file_use_of of_configs) (file_same of_configs) v)
row_same Row.Networks v = ap (kept_if_any Value.Networks) (keyed_same network_use_of network_same v)
row_same Row.HealthCheck v = health_same v
row_same Row.Dependencies v = ap (kept_if_any Value.Dependencies) (keyed_same dependency_of dependency_same v)

module _ (entries others : Entries) (are : AreOrdered entries others) where
  form_same : (form : Form) (wanted : Bool) (tree : Tree) → form_value form wanted entries (ordered tree) ≡ form_value form wanted others tree
  form_same (Form.Plain plain) wanted tree = plain_seen entries others are plain wanted tree
  form_same (Form.Own row) wanted tree = ap (unless_null wanted (row_value row)) (out-ordered tree) ∙ unless_same wanted (row_value row) (row_value row) (row_same row) (out-Tree tree)
  form_same Form.Consumed wanted tree = refl

  by_same : (form : Option Form) (wanted : Bool) (name : List ℕ) (tree : Tree) → attribute_by form wanted entries name (ordered tree) ≡ attribute_by form wanted others name tree
  by_same None wanted name tree = refl
  by_same (Some form) wanted name tree = ap (λ (r : Read (Option Value)). r >>= λ value. Ok (named name value)) (form_same form wanted tree)

  build_same : wanted_of_service entries ≡ wanted_of_service others
  build_same = ap (λ (b : Bool). if b then [] else codes "image" ∷ []) (ap is_given (are.values (codes "build")) ∙ at (value_at others (codes "build")))
    where
      at : (o : Option Tree) → is_given (option_map ordered o) ≡ is_given o
      at None = refl
      at (Some tree) = of_tree (λ v. not (is_null v)) (λ v. ap not (null_same v)) tree

  from_same : attributes_from entries ≡ attributes_from others
  from_same =
      ap (λ (wanted : List (List ℕ)). each_entry (attribute_under wanted entries) (in_byte_order (with_wanting wanted entries))) build_same
      ∙ walk_same (attribute_under (wanted_of_service others) entries) (attribute_under (wanted_of_service others) others)
      (λ name tree. by_same (form_of name) (is_in (wanted_of_service others) name) name tree)
      (with_wanting (wanted_of_service others) entries) (with_wanting (wanted_of_service others) others) (wanting_ordered (wanted_of_service others) entries others are)

-- the attributes of a service, of entries that are put in order
pub attributes_same : (entries : Entries) → attributes_of (ordered_entries entries) ≡ attributes_of entries
attributes_same entries = ap attributes_from (own_ordered entries) ∙ from_same (ordered_entries (own_entries entries)) (own_entries entries) (are_ordered (own_entries entries))
