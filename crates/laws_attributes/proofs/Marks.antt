-- What is read of trees without marks has none; and no key stands twice where none does in a tree's mappings.
use Rattle.std.proofs.Common.{◌≡◌, ◌∙◌, ℕ, Bool, true, false, cond, not, List, [], ◌∷◌, codes, map, unwrap_or, Some, None, Ok, refl, ap, sym, subst, rules}
use Rattle.std.specs.Prelude.{◌&&◌, ◌||◌, nat_le, Option}
use Rattle.std.specs.List.{list_all, list_any}
use Rattle.std.specs.Map.{keys_of, values_of}
use Rattle.std.specs.Str.{bytes_eq}
use Rattle.std.proofs.lemmas.Bool.{and_parts}
use Rattle.short_forms.specs.Decimals.{decimal_of}
use Rattle.short_forms.specs.Durations.{duration_of}
use Rattle.short_forms.specs.PortLaws.{published_in, target_in}
use Rattle.short_forms.specs.Sizes.{size_of}
use Rattle.tree_base.specs.Entries.{value_at}
use Rattle.tree_base.specs.declared.tree.Tree.{Tree, out-Tree, the_lemmas}
use Rattle.tree_base.specs.declared.tree.Tree.TheOpen.{Tree-F}
use Rattle.tree_base.specs.declared.tree.Tree.TheVariants.{Map, Null, Override, Scalar, Seq}
use Rattle.attribute_types.specs.declared.attribute.Attribute.{Attribute}
use Rattle.attribute_types.specs.declared.attribute.Value.{Value}
use Rattle.attribute_types.specs.declared.form.Form.{Form}
use Rattle.attribute_types.specs.declared.form.Plain.{Plain}
use Rattle.attribute_types.specs.declared.form.Row.{Row}
use Rattle.attribute_types.specs.declared.form.WordSet.TheVariants as words
use Rattle.attribute_types.specs.Lookups.{bool_at, pairs_at, text_at}
use Rattle.attribute_types.specs.Tables.{health_lines, logging_lines}
use Rattle.attribute_scalars.specs.Lists.{mapping_in, ordered, pairs_of, texts_of}
use Rattle.attribute_scalars.specs.Scalars.{accepted, bool_of, has_no_colon, if_passes, int_of, is_word_of, num_of, text_of, written}
use Rattle.attribute_scalars.specs.Walks.{Entries, Read}
use Rattle.attribute_values.specs.Fields.{fields_of}
use Rattle.attribute_values.specs.Forms.{deployed, external_among, has_networks, if_right, items_of, kept, kept_if_any, labels_of, plain_value, replicas_among, same_count, scale_among, source_among, test_of}
use Rattle.attribute_rows.specs.Rows.{check_or_none, dependency_of, file_use_of, health_from, in_mapping, keyed, listed, logging_from, mount_of, network_use_of, of_configs, of_secrets, port_of, row_value, ulimit_of}
use Rattle.merge_rules.specs.Laws.{are_apart, no_mark, own_keys}
use Rattle.attribute_paths.proofs.Trees.{OfAll, of_every}
use Rattle.laws_attributes.proofs.Order.{all_sorted}
use Rattle.laws_attributes.proofs.Lookups.{Apart, turned_text}
use Rattle.laws_attributes.proofs.Deployed.{deployed_given}
use Rattle.laws_attributes.proofs.Gifts.{key_of}
use Rattle.laws_attributes.proofs.KeptTrees.{ordered_entries, ordered_entry, ordered_map, ordered_null, ordered_override, ordered_reset, ordered_scalar, ordered_seq}
use Rattle.laws_attributes.proofs.ListForms.{mapping_given}
use Rattle.laws_attributes.proofs.MountRow.{bind_makes}
use Rattle.laws_attributes.proofs.OrdinaryForms.{no_value}
use Rattle.laws_attributes.proofs.PlainForms.{any_given, bound_given, flag_given, kept_given}
use Rattle.laws_attributes.proofs.PageTrees.{IsUnmarked, entries_unmarked, items_unmarked}
use Rattle.laws_attributes.proofs.Services.{given_by}

-- no mark in the parts, none in the whole
null_clean : no_mark Null ≡ true
null_clean = search (rules, the_lemmas)

scalar_clean : (text : List ℕ) → no_mark (Scalar text) ≡ true
scalar_clean text = search (rules, the_lemmas)

map_opens : (es : Entries) → no_mark (Map es) ≡ list_all (λ is. is) (values_of (map (λ (e : List ℕ × Tree). (e.0, no_mark e.1)) es))
map_opens es = search (rules, the_lemmas)

seq_opens : (xs : List Tree) → no_mark (Seq xs) ≡ list_all (λ is. is) (map no_mark xs)
seq_opens xs = search (rules, the_lemmas)

abbrev IsClean : Tree → Type 0
IsClean t = no_mark t ≡ true

all_values : (es : Entries) → OfAll (λ (e : List ℕ × Tree). IsClean e.1) es → list_all (λ is. is) (values_of (map (λ (e : List ℕ × Tree). (e.0, no_mark e.1)) es)) ≡ true
all_values [] h = refl
all_values (e ∷ es) h = rw (h.0, all_values es h.1) refl

all_items : (xs : List Tree) → OfAll IsClean xs → list_all (λ is. is) (map no_mark xs) ≡ true
all_items [] h = refl
all_items (x ∷ xs) h = rw (h.0, all_items xs h.1) refl

abbrev Keeps : Tree → Type 0
Keeps t = IsClean t → IsClean (ordered t)

entries_keep : (es : Entries) → OfAll (λ (e : List ℕ × Tree). Keeps e.1) es → OfAll (λ (e : List ℕ × Tree). IsClean e.1) es → OfAll (λ (e : List ℕ × Tree). IsClean e.1) (map ordered_entry es)
entries_keep [] h n = tt
entries_keep (e ∷ es) h n = (h.0 n.0, entries_keep es h.1 n.1)

items_keep : (xs : List Tree) → OfAll Keeps xs → OfAll IsClean xs → OfAll IsClean (map ordered xs)
items_keep [] h n = tt
items_keep (x ∷ xs) h n = (h.0 n.0, items_keep xs h.1 n.1)

-- a tree without marks has none in byte order
pub ordered_clean : (t : Tree) → IsClean t → IsClean (ordered t)
ordered_clean = of_every Keeps
    (λ n. ap no_mark ordered_null ∙ n)
    (λ text n. ap no_mark (ordered_scalar text) ∙ n)
    (λ es h n.
    ap no_mark (ordered_map es) ∙ map_opens (ordered_entries es)
    ∙ all_values (ordered_entries es) (all_sorted key_of (λ (e : List ℕ × Tree). IsClean e.1) (map ordered_entry es) (entries_keep es h (entries_unmarked es n))))
    (λ xs h n. ap no_mark (ordered_seq xs) ∙ seq_opens (map ordered xs) ∙ all_items (map ordered xs) (items_keep xs h (items_unmarked xs n)))
    (λ n. ap no_mark ordered_reset ∙ n)
    (λ inner h n. ap no_mark (ordered_override inner) ∙ marked (ordered inner) ∙ sym (marked inner) ∙ n)
  where
    marked : (inner : Tree) → no_mark (Override inner) ≡ false
    marked inner = search (rules, the_lemmas)

-- what is made is unmarked
kept_un : {X : Type 0} (make : X → Value) → ((x : X) → IsUnmarked (make x)) → (found : Read X) (v : Value) → kept make found ≡ Ok (Some v) → IsUnmarked v
kept_un make h found v e = let k = kept_given make found v e in subst IsUnmarked k.2 (h k.0)

any_un : {X : Type 0} (make : List X → Value) → ((x : List X) → IsUnmarked (make x)) → (found : Read (List X)) (v : Value) → kept_if_any make found ≡ Ok (Some v) → IsUnmarked v
any_un make h found v e = let k = any_given make found v e in subst IsUnmarked k.3 (h k.0)

right_un : (b : Bool) (x v : Value) → IsUnmarked x → if_right b (Some x) ≡ Ok (Some v) → IsUnmarked v
right_un true x v h e = let same : x ≡ v = cc e in subst IsUnmarked same h
right_un false x v h e = absurd (cc e)

external_un : (beside : Entries) (given : Bool) (v : Value) → external_among beside given ≡ Ok (Some v) → IsUnmarked v
external_un beside true v e = right_un _ (Value.Bool true) v tt e
external_un beside false v e = absurd (cc e)

-- what a form reads of a tree without marks has none
pub plain_unmarked : (plain : Plain) (beside : Entries) (tree : Tree) (v : Value) → IsClean tree → plain_value plain beside tree (out-Tree tree) ≡ Ok (Some v) → IsUnmarked v
plain_unmarked Plain.Text beside tree v n e = kept_un Value.Text (λ x. tt) (text_of (out-Tree tree)) v e
plain_unmarked Plain.Bool beside tree v n e = kept_un Value.Bool (λ x. tt) (written bool_of (out-Tree tree)) v e
plain_unmarked Plain.Flag beside tree v n e = subst IsUnmarked (flag_given (out-Tree tree) v e) tt
plain_unmarked Plain.Num beside tree v n e = kept_un Value.Num (λ x. tt) (written num_of (out-Tree tree)) v e
plain_unmarked Plain.Int beside tree v n e = kept_un Value.Int (λ x. tt) (written int_of (out-Tree tree)) v e
plain_unmarked Plain.List beside tree v n e = any_un Value.List (λ x. tt) (texts_of (out-Tree tree)) v e
plain_unmarked (Plain.Items form) beside tree v n e = any_un Value.List (λ x. tt) (items_of form (out-Tree tree)) v e
plain_unmarked Plain.Pairs beside tree v n e = any_un Value.Pairs (λ x. tt) (pairs_of (out-Tree tree)) v e
plain_unmarked Plain.Labels beside tree v n e = any_un Value.Pairs (λ x. tt) (labels_of (out-Tree tree)) v e
plain_unmarked Plain.Argv beside tree v n e = kept_un Value.Argv (λ x. tt) (texts_of (out-Tree tree)) v e
plain_unmarked Plain.Duration beside tree v n e = kept_un Value.Duration (λ x. tt) (written duration_of (out-Tree tree)) v e
plain_unmarked Plain.Size beside tree v n e = kept_un Value.Size (λ x. tt) (written size_of (out-Tree tree)) v e
plain_unmarked Plain.Decimal beside tree v n e = kept_un Value.Decimal (λ x. tt) (written decimal_of (out-Tree tree)) v e
plain_unmarked (Plain.Word set) beside tree v n e = kept_un Value.Text (λ x. tt) (accepted (if_passes (is_word_of set)) (out-Tree tree)) v e
plain_unmarked Plain.Kept beside tree v n e =
    let k = kept_given Value.Kept (mapping_in tree (out-Tree tree)) v e in
    let m = mapping_given tree (out-Tree tree) k.0 k.1 in
    subst IsUnmarked (ap (λ t. Value.Kept t) m.2 ∙ k.2) (ordered_clean tree n)
plain_unmarked Plain.Scale beside tree v n e =
    let b = bound_given (written num_of (out-Tree tree)) (scale_among beside) (Some v) e in
    right_un (nat_le b.0 100 && same_count b.0 (replicas_among beside)) (Value.Num b.0) v tt b.2
plain_unmarked Plain.Deploy beside tree v n e =
    let k = kept_given Value.Kept (deployed tree (out-Tree tree)) v e in
    let d = deployed_given tree (out-Tree tree) k.0 k.1 in
    subst IsUnmarked (ap (λ t. Value.Kept t) d.2 ∙ k.2) (ordered_clean tree n)
plain_unmarked Plain.NetworkMode beside tree v n e =
    let b = bound_given (accepted (if_passes (is_word_of words.NetworkModes)) (out-Tree tree)) (λ mode. if_right (not (has_networks beside)) (Some (Value.Text mode))) (Some v) e in
    right_un (not (has_networks beside)) (Value.Text b.0) v tt b.2
plain_unmarked Plain.External beside tree v n e =
    let b = bound_given (written bool_of (out-Tree tree)) (external_among beside) (Some v) e in external_un beside b.0 v b.2
plain_unmarked Plain.Test beside tree v n e = kept_un Value.Argv (λ x. tt) (test_of (out-Tree tree)) v e
plain_unmarked Plain.PortTarget beside tree v n e = kept_un Value.Port (λ x. tt) (accepted target_in (out-Tree tree)) v e
plain_unmarked Plain.Published beside tree v n e = kept_un Value.Text (λ x. tt) (accepted published_in (out-Tree tree)) v e
plain_unmarked Plain.Source beside tree v n e =
    let b = bound_given (text_of (out-Tree tree)) (source_among beside) (Some v) e in right_un _ (Value.Text b.0) v tt b.2
plain_unmarked Plain.Target beside tree v n e = kept_un Value.Text (λ x. tt) (accepted (if_passes has_no_colon) (out-Tree tree)) v e
plain_unmarked Plain.Bind beside tree v n e = let b = bind_makes beside tree v e in subst IsUnmarked b.1 tt
plain_unmarked Plain.NoOptions beside tree v n e = absurd (no_value (out-Tree tree) v e)
plain_unmarked Plain.Dropped beside tree v n e = absurd (cc e)

same_un : (x v : Value) → IsUnmarked x → Some x ≡ Some v → IsUnmarked v
same_un x v h e = let same : x ≡ v = cc e in subst IsUnmarked same h

logging_un : (l : List Attribute) (v : Value) → logging_from l ≡ Some v → IsUnmarked v
logging_un [] v e = absurd (cc e)
logging_un (a ∷ others) v e =
    same_un (Value.Logging (record { driver = text_at (a ∷ others) (codes "driver"); options = unwrap_or (pairs_at (a ∷ others) (codes "options")) [] })) v tt e

health_un : (l : List Attribute) (v : Value) → health_from l ≡ Some v → IsUnmarked v
health_un [] v e = absurd (cc e)
health_un (a ∷ others) v e = same_un (Value.HealthCheck (check_or_none (unwrap_or (bool_at (a ∷ others) (codes "disable")) false) (a ∷ others))) v tt e

row_unmarked : (row : Row) (s : Tree-F Tree) (v : Value) → row_value row s ≡ Ok (Some v) → IsUnmarked v
row_unmarked Row.Ulimits s v e = any_un Value.Ulimits (λ x. tt) (keyed ulimit_of s) v e
row_unmarked Row.Logging s v e =
    let b = bound_given (in_mapping (fields_of logging_lines []) s) (λ attributes. some_value (logging_from attributes)) (Some v) e in
    logging_un b.0 v (let same : logging_from b.0 ≡ Some v = cc b.2 in same)
  where
    some_value : Option Value → Read (Option Value)
    some_value o = Ok o
row_unmarked Row.Ports s v e = any_un Value.Ports (λ x. tt) (listed port_of s) v e
row_unmarked Row.Mounts s v e = any_un Value.Mounts (λ x. tt) (listed mount_of s) v e
row_unmarked Row.Secrets s v e = any_un Value.Files (λ x. tt) (listed (file_use_of of_secrets) s) v e
row_unmarked Row.Configs s v e = any_un Value.Files (λ x. tt) (listed (file_use_of of_configs) s) v e
row_unmarked Row.Networks s v e = any_un Value.Networks (λ x. tt) (keyed network_use_of s) v e
row_unmarked Row.HealthCheck s v e =
    let b = bound_given (in_mapping (fields_of health_lines []) s) (λ attributes. some_value (health_from attributes)) (Some v) e in
    health_un b.0 v (let same : health_from b.0 ≡ Some v = cc b.2 in same)
  where
    some_value : Option Value → Read (Option Value)
    some_value o = Ok o
row_unmarked Row.Dependencies s v e = any_un Value.Dependencies (λ x. tt) (keyed dependency_of s) v e

-- nor what a service's forms read
pub given_unmarked : (form : Form) (beside : Entries) (tree : Tree) (v : Value) → IsClean tree → given_by form beside tree (out-Tree tree) ≡ Ok (Some v) → IsUnmarked v
given_unmarked (Form.Plain plain) beside tree v n e = plain_unmarked plain beside tree v n e
given_unmarked (Form.Own row) beside tree v n e = row_unmarked row (out-Tree tree) v e
given_unmarked Form.Consumed beside tree v n e = absurd (cc e)

-- keys of a mapping that are apart
keys_open : (es : Entries) → own_keys (Map es) ≡ (are_apart (keys_of (map (λ (e : List ℕ × Tree). (e.0, own_keys e.1)) es)) && list_all (λ is. is) (values_of (map (λ (e : List ℕ × Tree). (e.0, own_keys e.1)) es)))
keys_open es = search (rules, the_lemmas)

none_under : (key : List ℕ) (es : Entries) → list_any (λ other. bytes_eq other key) (keys_of (map (λ (e : List ℕ × Tree). (e.0, own_keys e.1)) es)) ≡ false → value_at es key ≡ None
none_under key [] h = refl
none_under key (e ∷ es) h = at (bytes_eq e.0 key) refl (none_under key es) h
  where
    back : bytes_eq e.0 key ≡ false → bytes_eq key e.0 ≡ false
    back f = turned_text e.0 key f

    at : (b : Bool) → bytes_eq e.0 key ≡ b → (list_any (λ other. bytes_eq other key) (keys_of (map (λ (e : List ℕ × Tree). (e.0, own_keys e.1)) es)) ≡ false → value_at es key ≡ None)
        → (b || list_any (λ other. bytes_eq other key) (keys_of (map (λ (e : List ℕ × Tree). (e.0, own_keys e.1)) es))) ≡ false
        → cond (bytes_eq key e.0) (Some e.1) (value_at es key) ≡ None
    at true is more f = absurd (cc f)
    at false is more f = ap (λ b. cond b (Some e.1) (value_at es key)) (back is) ∙ more f

apart_keys : (es : Entries) → are_apart (keys_of (map (λ (e : List ℕ × Tree). (e.0, own_keys e.1)) es)) ≡ true → Apart es
apart_keys [] h = tt
apart_keys (e ∷ es) h =
    let both = and_parts (not (list_any (λ other. bytes_eq other e.0) (keys_of (map (λ (e : List ℕ × Tree). (e.0, own_keys e.1)) es)))) (are_apart (keys_of (map (λ (e : List ℕ × Tree). (e.0, own_keys e.1)) es))) h in
    (none_under e.0 es (isnt (list_any (λ other. bytes_eq other e.0) (keys_of (map (λ (e : List ℕ × Tree). (e.0, own_keys e.1)) es))) both.0), apart_keys es both.1)
  where
    isnt : (b : Bool) → not b ≡ true → b ≡ false
    isnt true f = absurd (cc f)
    isnt false f = refl

pub mapping_apart : (es : Entries) → own_keys (Map es) ≡ true → Apart es
mapping_apart es h =
    apart_keys es
    (and_parts (are_apart (keys_of (map (λ (e : List ℕ × Tree). (e.0, own_keys e.1)) es))) (list_all (λ is. is) (values_of (map (λ (e : List ℕ × Tree). (e.0, own_keys e.1)) es))) (sym (keys_open es) ∙ h)).0
