-- How a tree looks that a form accepts.
use Rattle.std.proofs.Common.{◌≡◌, ◌∙◌, ℕ, ◌+◌, Bool, true, false, List, [], ◌∷◌, Some, None, Ok, Err, codes, not, map, refl, sym, ap}
use Rattle.std.specs.Prelude.{Option, ◌||◌}
use Rattle.std.specs.List.{list_all, zip}
use Rattle.std.specs.Map.{keys_of, values_of}
use Rattle.std.specs.Option.{ok_or, option_and_then, option_map}
use Rattle.std.specs.Str.{bytes_eq}
use Rattle.std.proofs.lemmas.Slice.Eq.{bytes_eq-Decides}
use Rattle.tree_base.specs.Answers.{◌>>=◌}
use Rattle.tree_base.specs.declared.Step.TheVariants.{Index}
use Rattle.tree_base.specs.declared.tree.Tree.{Tree, out-Tree}
use Rattle.tree_base.specs.declared.tree.Tree.TheOpen.{Tree-F}
use Rattle.file_paths.specs.Shapes.{is_mapping, is_null, is_scalar, mapping_of, or_null, sequence_of}
use Rattle.attribute_paths.proofs.Trees.{OfAll}
use Rattle.attribute_types.specs.Answers.{under}
use Rattle.attribute_types.specs.Tables.{health_lines, line_of, logging_lines}
use Rattle.attribute_types.specs.declared.attribute.Attribute.{Attribute}
use Rattle.attribute_types.specs.declared.attribute.Value.{Value}
use Rattle.attribute_types.specs.declared.form.Form.{Form}
use Rattle.attribute_types.specs.declared.form.Plain.{Plain}
use Rattle.attribute_types.specs.declared.form.Row.{Row}
use Rattle.attribute_types.specs.declared.form.WordSet.TheVariants as words
use Rattle.attribute_types.specs.declared.refusal.AttributeRefusal.TheVariants.{At}
use Rattle.attribute_types.specs.declared.refusal.Fault.{Fault}
use Rattle.attribute_scalars.specs.Lists.{as_test, all_passing, collected, mapping_in, nullable_in, pairs_of, text_in, texts_of, labelled, if_any}
use Rattle.attribute_scalars.specs.Scalars.{accepted, bool_of, has_no_colon, has_form, if_passes, int_of, is_word_of, num_of, text_of, written}
use Rattle.attribute_scalars.specs.Walks.{Entries, Read, each_entry, each_item, in_byte_order, place}
use Rattle.attribute_values.specs.Fields.{field_by, field_of, fields_of, named, unless_null}
use Rattle.attribute_values.specs.Forms.{deploy_option, deployed, entries_of, external_among, flag, has_networks, if_right, items_of, kept, kept_if_any, labels_of, plain_value, scale_among, source_among, test_of}
use Rattle.attribute_rows.specs.Attributes.{form_value}
use Rattle.attribute_rows.specs.Rows.{dependency_of, file_use_of, health_from, health_of, in_mapping, keyed, listed, logging_from, mount_of, network_use_of, of_configs, of_secrets, port_of, row_value, ulimit_of}
use Rattle.short_forms.specs.Decimals.{decimal_of}
use Rattle.short_forms.specs.Durations.{duration_of}
use Rattle.short_forms.specs.Sizes.{size_of}
use Rattle.short_forms.specs.PortLaws.{published_in, target_in}
use Rattle.attribute_types.specs.declared.rows.Dependency.{Dependency}
use Rattle.attribute_types.specs.declared.rows.NetworkUse.{NetworkUse}
use Rattle.laws_attributes.proofs.Entering.{IsRead, sorted_read, to_all, unsorted, weaker}

-- what was given in one step after another
pub bound : {A B : Type 0} (r : Read A) (next : A → Read B) (b : B) → (r >>= next) ≡ Ok b → (a : A) × (r ≡ Ok a) × (next a ≡ Ok b)
bound (Ok a) next b e = (a, refl, e)
bound (Err refusal) next b e = absurd (cc e)

-- texts
text_looks : (s : Tree-F Tree) (text : List ℕ) → text_of s ≡ Ok text → is_scalar s ≡ true
text_looks Tree-F.Null text e = absurd (cc e)
text_looks (Tree-F.Scalar own) text e = refl
text_looks (Tree-F.Map entries) text e = absurd (cc e)
text_looks (Tree-F.Seq items) text e = absurd (cc e)
text_looks Tree-F.Reset text e = absurd (cc e)
text_looks (Tree-F.Override inner) text e = absurd (cc e)

written_looks : {X : Type 0} (read : List ℕ → Option X) (s : Tree-F Tree) (x : X) → written read s ≡ Ok x → is_scalar s ≡ true
written_looks read Tree-F.Null x e = absurd (cc e)
written_looks read (Tree-F.Scalar own) x e = refl
written_looks read (Tree-F.Map entries) x e = absurd (cc e)
written_looks read (Tree-F.Seq items) x e = absurd (cc e)
written_looks read Tree-F.Reset x e = absurd (cc e)
written_looks read (Tree-F.Override inner) x e = absurd (cc e)

accepted_looks : {X : Type 0} (read : List ℕ → Option X) (s : Tree-F Tree) (x : X) → accepted read s ≡ Ok x → is_scalar s ≡ true
accepted_looks read s x e = let b = bound (text_of s) (λ text. ok_or (read text) (At Fault.BadValue [])) x e in text_looks s b.0 b.1

-- what is collected
collected_all : {X : Type 0} (read : Tree → Option X) (trees : List Tree) (xs : List X) → collected read trees ≡ Some xs → OfAll (λ tree. (x : X) × (read tree ≡ Some x)) trees
collected_all read [] xs e = tt
collected_all {X} read (tree ∷ trees) xs e = by (read tree) refl (collected read trees) refl (collected_all read trees) e
  where
    by : (o : Option X) → read tree ≡ o → (p : Option (List X)) → collected read trees ≡ p → ((ys : List X) → collected read trees ≡ Some ys → OfAll (λ tree. (x : X) × (read tree ≡ Some x)) trees)
        → option_and_then (λ x. option_map (λ ys. x ∷ ys) p) o ≡ Some xs → OfAll (λ tree. (x : X) × (read tree ≡ Some x)) (tree ∷ trees)
    by None is p so more e = absurd (cc e)
    by (Some x) is None so more e = absurd (cc e)
    by (Some x) is (Some ys) so more e = ((x, is), more ys so)

or_given : {X : Type 0} (o : Option X) (fault : Fault) (x : X) → ok_or o (At fault []) ≡ Ok x → o ≡ Some x
or_given None fault x e = absurd (cc e)
or_given (Some y) fault x e = cc e

a_scalar : (s : Tree-F Tree) (text : List ℕ) → text_in s ≡ Some text → is_scalar s ≡ true
a_scalar Tree-F.Null text e = absurd (cc e)
a_scalar (Tree-F.Scalar own) text e = refl
a_scalar (Tree-F.Map entries) text e = absurd (cc e)
a_scalar (Tree-F.Seq items) text e = absurd (cc e)
a_scalar Tree-F.Reset text e = absurd (cc e)
a_scalar (Tree-F.Override inner) text e = absurd (cc e)

texts_look : (s : Tree-F Tree) (texts : List (List ℕ)) → texts_of s ≡ Ok texts → sequence_of is_scalar s ≡ true
texts_look Tree-F.Null texts e = absurd (cc e)
texts_look (Tree-F.Scalar own) texts e = absurd (cc e)
texts_look (Tree-F.Map entries) texts e = absurd (cc e)
texts_look (Tree-F.Seq items) texts e =
    to_all (λ item. is_scalar (out-Tree item)) items
    (weaker (λ tree. (x : List ℕ) × (text_in (out-Tree tree) ≡ Some x)) (λ item. is_scalar (out-Tree item) ≡ true) (λ tree h. a_scalar (out-Tree tree) h.0 h.1) items
    (collected_all (λ tree. text_in (out-Tree tree)) items texts (or_given (collected (λ tree. text_in (out-Tree tree)) items) Fault.WrongKind texts e)))
texts_look Tree-F.Reset texts e = absurd (cc e)
texts_look (Tree-F.Override inner) texts e = absurd (cc e)

-- pairs
a_nullable : (s : Tree-F Tree) (found : Option (List ℕ)) → nullable_in s ≡ Some found → or_null is_scalar s ≡ true
a_nullable Tree-F.Null found e = refl
a_nullable (Tree-F.Scalar own) found e = refl
a_nullable (Tree-F.Map entries) found e = absurd (cc e)
a_nullable (Tree-F.Seq items) found e = absurd (cc e)
a_nullable Tree-F.Reset found e = absurd (cc e)
a_nullable (Tree-F.Override inner) found e = absurd (cc e)

map_some : {X Y : Type 0} (f : X → Y) (o : Option X) (y : Y) → option_map f o ≡ Some y → (x : X) × (o ≡ Some x)
map_some f None y e = absurd (cc e)
map_some f (Some x) y e = (x, refl)

values_all : (P : Tree → Type 0) (es : Entries) → OfAll P (values_of es) → OfAll (λ (e : List ℕ × Tree). P e.1) es
values_all P [] h = tt
values_all P (e ∷ es) h = (h.0, values_all P es h.1)

all_values : (P : Tree → Type 0) (es : Entries) → OfAll (λ (e : List ℕ × Tree). P e.1) es → OfAll P (values_of es)
all_values P [] h = tt
all_values P (e ∷ es) h = (h.0, all_values P es h.1)

pub mapping_looks : (test : Tree-F Tree → Bool) (es : Entries) → OfAll (λ (e : List ℕ × Tree). test (out-Tree e.1) ≡ true) es → mapping_of test (Tree-F.Map es) ≡ true
mapping_looks test es h = to_all (λ value. test (out-Tree value)) (values_of es) (all_values (λ value. test (out-Tree value) ≡ true) es h)

IsNullable : Tree → Type 0
IsNullable tree = (found : Option (List ℕ)) × (nullable_in (out-Tree tree) ≡ Some found)

pairs_look : (s : Tree-F Tree) (pairs : List (List ℕ × Option (List ℕ))) → pairs_of s ≡ Ok pairs → mapping_of (or_null is_scalar) s ≡ true
unfolding IsNullable
pairs_look Tree-F.Null pairs e = absurd (cc e)
pairs_look (Tree-F.Scalar own) pairs e = absurd (cc e)
pairs_look (Tree-F.Map entries) pairs e =
    let sorted = in_byte_order entries in
    let o = map_some (zip (keys_of sorted)) (collected (λ tree. nullable_in (out-Tree tree)) (values_of sorted)) pairs
    (or_given (option_map (zip (keys_of sorted)) (collected (λ tree. nullable_in (out-Tree tree)) (values_of sorted))) Fault.WrongKind pairs e) in
    let all = collected_all (λ tree. nullable_in (out-Tree tree)) (values_of sorted) o.0 o.1 in
    mapping_looks (or_null is_scalar) entries
    (weaker (λ (e : List ℕ × Tree). IsNullable e.1) (λ (e : List ℕ × Tree). or_null is_scalar (out-Tree e.1) ≡ true) (λ e h. a_nullable (out-Tree e.1) h.0 h.1) entries
    (unsorted (λ (e : List ℕ × Tree). e.0) (λ (e : List ℕ × Tree). IsNullable e.1) entries (values_all IsNullable sorted all)))
pairs_look (Tree-F.Seq items) pairs e = absurd (cc e)
pairs_look Tree-F.Reset pairs e = absurd (cc e)
pairs_look (Tree-F.Override inner) pairs e = absurd (cc e)

-- mappings
kept_looks : (tree : Tree) (s : Tree-F Tree) (t : Tree) → mapping_in tree s ≡ Ok t → is_mapping s ≡ true
kept_looks tree Tree-F.Null t e = absurd (cc e)
kept_looks tree (Tree-F.Scalar own) t e = absurd (cc e)
kept_looks tree (Tree-F.Map entries) t e = refl
kept_looks tree (Tree-F.Seq items) t e = absurd (cc e)
kept_looks tree Tree-F.Reset t e = absurd (cc e)
kept_looks tree (Tree-F.Override inner) t e = absurd (cc e)

-- a mapping is read
pub in_mapping_read : {X : Type 0} (read : Entries → Read X) (s : Tree-F Tree) (x : X) → in_mapping read s ≡ Ok x → (es : Entries) × (s ≡ Tree-F.Map es) × (read es ≡ Ok x)
in_mapping_read read Tree-F.Null x e = absurd (cc e)
in_mapping_read read (Tree-F.Scalar own) x e = absurd (cc e)
in_mapping_read read (Tree-F.Map es) x e = (es, refl, e)
in_mapping_read read (Tree-F.Seq items) x e = absurd (cc e)
in_mapping_read read Tree-F.Reset x e = absurd (cc e)
in_mapping_read read (Tree-F.Override inner) x e = absurd (cc e)

mapping_read : {X : Type 0} (read : Entries → Read X) (s : Tree-F Tree) (x : X) → in_mapping read s ≡ Ok x → is_mapping s ≡ true
mapping_read read s x e = let m = in_mapping_read read s x e in ap is_mapping m.1

-- lists of mappings
each_item_read : {X : Type 0} (read : Entries → Read X) (at : ℕ) (items : List Tree) (xs : List X) → each_item (λ item. in_mapping read (out-Tree item)) at items ≡ Ok xs
    → OfAll (λ item. is_mapping (out-Tree item) ≡ true) items
each_item_read read at [] xs e = tt
each_item_read {X} read at (item ∷ items) xs e = by (in_mapping read (out-Tree item)) refl (each_item (λ item. in_mapping read (out-Tree item)) (at + 1) items) refl (each_item_read read (at + 1) items) e
  where
    by : (r : Read X) → in_mapping read (out-Tree item) ≡ r → (s : Read (List X)) → each_item (λ item. in_mapping read (out-Tree item)) (at + 1) items ≡ s
        → ((ys : List X) → each_item (λ item. in_mapping read (out-Tree item)) (at + 1) items ≡ Ok ys → OfAll (λ item. is_mapping (out-Tree item) ≡ true) items)
        → (under (Index (place at)) r >>= λ found. s >>= λ more. Ok (found ∷ more)) ≡ Ok xs → OfAll (λ item. is_mapping (out-Tree item) ≡ true) (item ∷ items)
    by (Err refusal) p s q more e = absurd (cc e)
    by (Ok x) p (Err refusal) q more e = absurd (cc e)
    by (Ok x) p (Ok ys) q more e = (mapping_read read (out-Tree item) x p, more ys q)

listed_looks : {X : Type 0} (read : Entries → Read X) (s : Tree-F Tree) (xs : List X) → listed read s ≡ Ok xs → sequence_of is_mapping s ≡ true
listed_looks read Tree-F.Null xs e = absurd (cc e)
listed_looks read (Tree-F.Scalar own) xs e = absurd (cc e)
listed_looks read (Tree-F.Map es) xs e = absurd (cc e)
listed_looks read (Tree-F.Seq items) xs e = to_all (λ item. is_mapping (out-Tree item)) items (each_item_read read 0 items xs e)
listed_looks read Tree-F.Reset xs e = absurd (cc e)
listed_looks read (Tree-F.Override inner) xs e = absurd (cc e)

-- mappings of mappings
keyed_read : {X : Type 0} (read : List ℕ → Tree-F Tree → Read (List X)) (s : Tree-F Tree) (xs : List X) → keyed read s ≡ Ok xs
    → (es : Entries) × (s ≡ Tree-F.Map es) × OfAll (IsRead (λ key value. read key (out-Tree value))) es
keyed_read read Tree-F.Null xs e = absurd (cc e)
keyed_read read (Tree-F.Scalar own) xs e = absurd (cc e)
keyed_read read (Tree-F.Map es) xs e = (es, refl, sorted_read (λ key value. read key (out-Tree value)) es xs e)
keyed_read read (Tree-F.Seq items) xs e = absurd (cc e)
keyed_read read Tree-F.Reset xs e = absurd (cc e)
keyed_read read (Tree-F.Override inner) xs e = absurd (cc e)

keyed_looks : {X : Type 0} (read : List ℕ → Tree-F Tree → Read (List X)) → ((key : List ℕ) (s : Tree-F Tree) (xs : List X) → read key s ≡ Ok xs → or_null is_mapping s ≡ true)
    → (s : Tree-F Tree) (xs : List X) → keyed read s ≡ Ok xs → mapping_of (or_null is_mapping) s ≡ true
keyed_looks read so s xs e =
    let k = keyed_read read s xs e in
    ap (mapping_of (or_null is_mapping)) k.1
    ∙ mapping_looks (or_null is_mapping) k.0
    (weaker (IsRead (λ key value. read key (out-Tree value))) (λ (e : List ℕ × Tree). or_null is_mapping (out-Tree e.1) ≡ true) (λ e h. so e.0 (out-Tree e.1) h.0 h.1) k.0 k.2)

-- how trees look, but for null
pub data Kind : Type 0 where
  a_text : Kind
  texts : Kind
  maps : Kind
  pairs : Kind
  rows : Kind
  a_mapping : Kind
  a_check : Kind
  anything : Kind

-- an entry that is no command of a health check, or texts
abbrev pub is_checked : List ℕ × Tree → Bool
is_checked entry = not (bytes_eq entry.0 (codes "test")) || or_null (sequence_of is_scalar) (out-Tree entry.1)

-- how a health check looks
abbrev pub is_check : Tree-F Tree → Bool
is_check (Tree-F.Map es) = list_all is_checked es
is_check tree = false

-- how a tree of a kind looks
abbrev pub looks : Kind → Tree-F Tree → Bool
looks a_text = is_scalar
looks texts = sequence_of is_scalar
looks maps = sequence_of is_mapping
looks pairs = mapping_of (or_null is_scalar)
looks rows = mapping_of (or_null is_mapping)
looks a_mapping = is_mapping
looks a_check = is_check
looks anything = λ tree. true

abbrev pub plain_kind : Plain → Kind
plain_kind Plain.List = texts
plain_kind (Plain.Items form) = texts
plain_kind Plain.Argv = texts
plain_kind Plain.Test = texts
plain_kind Plain.Pairs = pairs
plain_kind Plain.Labels = pairs
plain_kind Plain.Kept = a_mapping
plain_kind Plain.Deploy = a_mapping
plain_kind Plain.Bind = anything
plain_kind Plain.NoOptions = anything
plain_kind Plain.Dropped = anything
plain_kind plain = a_text

abbrev pub row_kind : Row → Kind
row_kind Row.Ulimits = a_mapping
row_kind Row.Logging = a_mapping
row_kind Row.Ports = maps
row_kind Row.Mounts = maps
row_kind Row.Secrets = maps
row_kind Row.Configs = maps
row_kind Row.Networks = rows
row_kind Row.HealthCheck = a_check
row_kind Row.Dependencies = rows

abbrev pub form_kind : Form → Kind
form_kind (Form.Plain plain) = plain_kind plain
form_kind (Form.Own row) = row_kind row
form_kind Form.Consumed = anything

-- what was kept was read
kept_read : {X : Type 0} (make : X → Value) (r : Read X) (found : Option Value) → kept make r ≡ Ok found → (x : X) × (r ≡ Ok x)
kept_read make r found e = let b = bound r (λ x. Ok (Some (make x))) found e in (b.0, b.1)

any_read : {X : Type 0} (make : List X → Value) (r : Read (List X)) (found : Option Value) → kept_if_any make r ≡ Ok found → (xs : List X) × (r ≡ Ok xs)
any_read make r found e = let b = bound r (λ xs. Ok (option_map make (if_any xs))) found e in (b.0, b.1)

pub plain_looks : (plain : Plain) (beside : Entries) (tree : Tree) (s : Tree-F Tree) (found : Option Value) → plain_value plain beside tree s ≡ Ok found → looks (plain_kind plain) s ≡ true
plain_looks Plain.Text beside tree s found e = let k = kept_read Value.Text (text_of s) found e in text_looks s k.0 k.1
plain_looks Plain.Bool beside tree s found e = let k = kept_read Value.Bool (written bool_of s) found e in written_looks bool_of s k.0 k.1
plain_looks Plain.Flag beside tree s found e = let b = bound (written bool_of s) (λ given. Ok (flag given)) found e in written_looks bool_of s b.0 b.1
plain_looks Plain.Num beside tree s found e = let k = kept_read Value.Num (written num_of s) found e in written_looks num_of s k.0 k.1
plain_looks Plain.Int beside tree s found e = let k = kept_read Value.Int (written int_of s) found e in written_looks int_of s k.0 k.1
plain_looks Plain.List beside tree s found e = let k = any_read Value.List (texts_of s) found e in texts_look s k.0 k.1
plain_looks (Plain.Items form) beside tree s found e =
    let k = any_read Value.List (items_of form s) found e in
    let b = bound (texts_of s) (all_passing (has_form form)) k.0 k.1 in texts_look s b.0 b.1
plain_looks Plain.Pairs beside tree s found e = let k = any_read Value.Pairs (pairs_of s) found e in pairs_look s k.0 k.1
plain_looks Plain.Labels beside tree s found e =
    let k = any_read Value.Pairs (labels_of s) found e in
    let b = bound (pairs_of s) (λ pairs. Ok (map labelled pairs)) k.0 k.1 in pairs_look s b.0 b.1
plain_looks Plain.Argv beside tree s found e = let k = kept_read Value.Argv (texts_of s) found e in texts_look s k.0 k.1
plain_looks Plain.Duration beside tree s found e = let k = kept_read Value.Duration (written duration_of s) found e in written_looks duration_of s k.0 k.1
plain_looks Plain.Size beside tree s found e = let k = kept_read Value.Size (written size_of s) found e in written_looks size_of s k.0 k.1
plain_looks Plain.Decimal beside tree s found e = let k = kept_read Value.Decimal (written decimal_of s) found e in written_looks decimal_of s k.0 k.1
plain_looks (Plain.Word set) beside tree s found e =
    let k = kept_read Value.Text (accepted (if_passes (is_word_of set)) s) found e in accepted_looks (if_passes (is_word_of set)) s k.0 k.1
plain_looks Plain.Kept beside tree s found e = let k = kept_read Value.Kept (mapping_in tree s) found e in kept_looks tree s k.0 k.1
plain_looks Plain.Scale beside tree s found e = let b = bound (written num_of s) (scale_among beside) found e in written_looks num_of s b.0 b.1
plain_looks Plain.Deploy beside tree s found e =
    let k = kept_read Value.Kept (deployed tree s) found e in
    let b = bound (mapping_in tree s) (λ t. each_entry (λ key option. deploy_option key (out-Tree option)) (in_byte_order (entries_of s)) >>= λ none. Ok t) k.0 k.1 in kept_looks tree s b.0 b.1
plain_looks Plain.NetworkMode beside tree s found e =
    let b = bound (accepted (if_passes (is_word_of words.NetworkModes)) s) (λ mode. if_right (not (has_networks beside)) (Some (Value.Text mode))) found e in
    accepted_looks (if_passes (is_word_of words.NetworkModes)) s b.0 b.1
plain_looks Plain.External beside tree s found e = let b = bound (written bool_of s) (external_among beside) found e in written_looks bool_of s b.0 b.1
plain_looks Plain.Test beside tree s found e =
    let k = kept_read Value.Argv (test_of s) found e in let b = bound (texts_of s) as_test k.0 k.1 in texts_look s b.0 b.1
plain_looks Plain.PortTarget beside tree s found e = let k = kept_read Value.Port (accepted target_in s) found e in accepted_looks target_in s k.0 k.1
plain_looks Plain.Published beside tree s found e = let k = kept_read Value.Text (accepted published_in s) found e in accepted_looks published_in s k.0 k.1
plain_looks Plain.Source beside tree s found e = let b = bound (text_of s) (source_among beside) found e in text_looks s b.0 b.1
plain_looks Plain.Target beside tree s found e =
    let k = kept_read Value.Text (accepted (if_passes has_no_colon) s) found e in accepted_looks (if_passes has_no_colon) s k.0 k.1
plain_looks Plain.Bind beside tree s found e = refl
plain_looks Plain.NoOptions beside tree s found e = refl
plain_looks Plain.Dropped beside tree s found e = refl

-- null, or what looks so
pub unless_looks : (test : Tree-F Tree → Bool) (wanted : Bool) (read : Tree-F Tree → Read (Option Value)) (s : Tree-F Tree) (found : Option Value)
    → ((given : Option Value) → read s ≡ Ok given → test s ≡ true) → unless_null wanted read s ≡ Ok found → or_null test s ≡ true
unless_looks test wanted read Tree-F.Null found so e = refl
unless_looks test wanted read (Tree-F.Scalar text) found so e = so found e
unless_looks test wanted read (Tree-F.Map es) found so e = so found e
unless_looks test wanted read (Tree-F.Seq items) found so e = so found e
unless_looks test wanted read Tree-F.Reset found so e = so found e
unless_looks test wanted read (Tree-F.Override inner) found so e = so found e

-- the rows of a service's networks, and of what it depends on
network_looks : (key : List ℕ) (s : Tree-F Tree) (xs : List NetworkUse) → network_use_of key s ≡ Ok xs → or_null is_mapping s ≡ true
network_looks key Tree-F.Null xs e = refl
network_looks key (Tree-F.Scalar text) xs e = absurd (cc e)
network_looks key (Tree-F.Map es) xs e = refl
network_looks key (Tree-F.Seq items) xs e = absurd (cc e)
network_looks key Tree-F.Reset xs e = absurd (cc e)
network_looks key (Tree-F.Override inner) xs e = absurd (cc e)

need_looks : (key : List ℕ) (s : Tree-F Tree) (xs : List Dependency) → dependency_of key s ≡ Ok xs → or_null is_mapping s ≡ true
need_looks key Tree-F.Null xs e = refl
need_looks key (Tree-F.Scalar text) xs e = absurd (cc e)
need_looks key (Tree-F.Map es) xs e = refl
need_looks key (Tree-F.Seq items) xs e = absurd (cc e)
need_looks key Tree-F.Reset xs e = absurd (cc e)
need_looks key (Tree-F.Override inner) xs e = absurd (cc e)

-- the fields of a health check
test_line : line_of health_lines (codes "test") ≡ Some Plain.Test
unfolding health_lines
test_line = refl

field_looks : (es : Entries) (entry : List ℕ × Tree) (found : List Attribute) → field_of health_lines [] es entry.0 entry.1 ≡ Ok found → is_checked entry ≡ true
field_looks es entry found e = at (bytes_eq entry.0 (codes "test")) refl
  where
    at : (b : Bool) → bytes_eq entry.0 (codes "test") ≡ b → (not b || or_null (sequence_of is_scalar) (out-Tree entry.1)) ≡ true
    at false is = refl
    at true is =
        let name : entry.0 ≡ codes "test" = (bytes_eq-Decides entry.0 (codes "test")).0 is in
        let so : field_by (Some Plain.Test) false es entry.0 entry.1 ≡ Ok found =
        ap (λ (o : Option Plain). field_by o false es entry.0 entry.1) (sym (ap (line_of health_lines) name ∙ test_line)) ∙ e in
        let b = bound (unless_null false (plain_value Plain.Test es entry.1) (out-Tree entry.1)) (λ value. Ok (named entry.0 value)) found so in
        unless_looks (sequence_of is_scalar) false (plain_value Plain.Test es entry.1) (out-Tree entry.1) b.0 (λ given f. plain_looks Plain.Test es entry.1 (out-Tree entry.1) given f) b.1

check_looks : (s : Tree-F Tree) (found : Option Value) → health_of s ≡ Ok found → is_check s ≡ true
check_looks s found e =
    let b = bound (in_mapping (fields_of health_lines []) s) (λ attributes. Ok (health_from attributes)) found e in
    let m = in_mapping_read (fields_of health_lines []) s b.0 b.1 in
    ap is_check m.1
    ∙ to_all is_checked m.0
    (weaker (IsRead (field_of health_lines [] m.0)) (λ entry. is_checked entry ≡ true) (λ entry h. field_looks m.0 entry h.0 h.1) m.0 (sorted_read (field_of health_lines [] m.0) m.0 b.0 m.2))

row_looks : (row : Row) (s : Tree-F Tree) (found : Option Value) → row_value row s ≡ Ok found → looks (row_kind row) s ≡ true
row_looks Row.Ulimits s found e = let k = any_read Value.Ulimits (keyed ulimit_of s) found e in ap is_mapping (keyed_read ulimit_of s k.0 k.1).1
row_looks Row.Logging s found e =
    let b = bound (in_mapping (fields_of logging_lines []) s) (λ attributes. Ok (logging_from attributes)) found e in mapping_read (fields_of logging_lines []) s b.0 b.1
row_looks Row.Ports s found e = let k = any_read Value.Ports (listed port_of s) found e in listed_looks port_of s k.0 k.1
row_looks Row.Mounts s found e = let k = any_read Value.Mounts (listed mount_of s) found e in listed_looks mount_of s k.0 k.1
row_looks Row.Secrets s found e = let k = any_read Value.Files (listed (file_use_of of_secrets) s) found e in listed_looks (file_use_of of_secrets) s k.0 k.1
row_looks Row.Configs s found e = let k = any_read Value.Files (listed (file_use_of of_configs) s) found e in listed_looks (file_use_of of_configs) s k.0 k.1
row_looks Row.Networks s found e = let k = any_read Value.Networks (keyed network_use_of s) found e in keyed_looks network_use_of network_looks s k.0 k.1
row_looks Row.HealthCheck s found e = check_looks s found e
row_looks Row.Dependencies s found e = let k = any_read Value.Dependencies (keyed dependency_of s) found e in keyed_looks dependency_of need_looks s k.0 k.1

-- what a form accepts looks so
pub form_looks : (form : Form) (wanted : Bool) (beside : Entries) (tree : Tree) (found : Option Value) → form_value form wanted beside tree ≡ Ok found → or_null (looks (form_kind form)) (out-Tree tree) ≡ true
form_looks (Form.Plain plain) wanted beside tree found e =
    unless_looks (looks (plain_kind plain)) wanted (plain_value plain beside tree) (out-Tree tree) found (λ given f. plain_looks plain beside tree (out-Tree tree) given f) e
form_looks (Form.Own row) wanted beside tree found e = unless_looks (looks (row_kind row)) wanted (row_value row) (out-Tree tree) found (λ given f. row_looks row (out-Tree tree) given f) e
form_looks Form.Consumed wanted beside tree found e = either (is_null (out-Tree tree))
  where
    either : (b : Bool) → (b || true) ≡ true
    either true = refl
    either false = refl
