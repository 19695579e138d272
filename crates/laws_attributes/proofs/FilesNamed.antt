-- Files that a service uses stand under `secrets` or `configs`, and are found there.
use Rattle.std.proofs.Common.{◌≡◌, ◌∙◌, ◌⊎◌, ℕ, Bool, true, false, cond, not, List, [], ◌∷◌, All, codes, unwrap_or, Some, None, Ok, inl, inr, refl, ap, sym, subst}
use Rattle.std.specs.Prelude.{◌&&◌, ◌||◌, Option, find, nat_le}
use Rattle.std.specs.List.{list_all}
use Rattle.std.specs.Option.{option_and_then, option_map}
use Rattle.std.specs.Str.{bytes_eq}
use Rattle.std.proofs.lemmas.Bool.{and_parts}
use Rattle.std.proofs.lemmas.List.Elements.{All-cons, All-nil}
use Rattle.short_forms.specs.Decimals.{decimal_of}
use Rattle.short_forms.specs.Durations.{duration_of}
use Rattle.short_forms.specs.PortLaws.{published_in, target_in}
use Rattle.short_forms.specs.Sizes.{size_of}
use Rattle.tree_base.specs.Entries as entries
use Rattle.tree_base.specs.declared.tree.Tree.{Tree, out-Tree}
use Rattle.tree_base.specs.declared.tree.Tree.TheOpen.{Tree-F}
use Rattle.attribute_types.specs.Lookups.{as_files, bool_at, files_at, pairs_at, text_at}
use Rattle.attribute_types.specs.Tables.{Lines, form_of, health_lines, host_lines, joining_lines, line_of, logging_lines, process_lines, resource_lines, running_lines}
use Rattle.attribute_types.specs.Values.{value_at}
use Rattle.attribute_types.specs.declared.attribute.Attribute.{Attribute}
use Rattle.attribute_types.specs.declared.attribute.Value.{Value}
use Rattle.attribute_types.specs.declared.form.Form.{Form}
use Rattle.attribute_types.specs.declared.form.Plain.{Plain}
use Rattle.attribute_types.specs.declared.form.Row.{Row}
use Rattle.attribute_types.specs.declared.form.WordSet.TheVariants as words
use Rattle.attribute_scalars.specs.Lists.{mapping_in, pairs_of, texts_of}
use Rattle.attribute_scalars.specs.Scalars.{accepted, bool_of, has_no_colon, if_passes, int_of, is_word_of, num_of, text_of, written}
use Rattle.attribute_scalars.specs.Walks.{Entries, Read, each_entry, in_byte_order, is_in, own_entries, with_wanting}
use Rattle.attribute_values.specs.Fields.{fields_of}
use Rattle.attribute_values.specs.Forms.{deployed, external_among, has_networks, if_right, items_of, kept, kept_if_any, labels_of, plain_value, replicas_among, same_count, scale_among, source_among, test_of}
use Rattle.attribute_rows.specs.Attributes.{attributes_from, attributes_of, wanted_of_service}
use Rattle.attribute_rows.specs.Rows.{check_or_none, dependency_of, health_from, in_mapping, keyed, listed, logging_from, mount_of, network_use_of, port_of, row_value, ulimit_of}
use Rattle.attribute_paths.proofs.Trees.{OfAll}
use Rattle.laws_attributes.specs.ReadBack.{ArePlain, HasPlace, HavePlaces}
use Rattle.laws_attributes.proofs.Lookups.{Apart, own_text, same_text, sorted_apart}
use Rattle.laws_attributes.proofs.Gifts.{From, each_from, gave, looked, looked_up, reads}
use Rattle.laws_attributes.proofs.Marks.{mapping_apart}
use Rattle.laws_attributes.proofs.MountRow.{bind_makes}
use Rattle.laws_attributes.proofs.OrdinaryForms.{no_value}
use Rattle.laws_attributes.proofs.PlainForms.{any_given, bound_given, flag_given, kept_given}
use Rattle.laws_attributes.proofs.Services.{by_form, given_by, one_of, or_either, walks}
use Rattle.laws_attributes.proofs.Wanting.{apart_wanting, own_apart}

-- a value that isn't files
abbrev NoFiles : Value → Type 0
NoFiles (Value.Files files) = ⊥
NoFiles value = Unit {0}

kept_other : {X : Type 0} (make : X → Value) → ((x : X) → NoFiles (make x)) → (found : Read X) (v : Value) → kept make found ≡ Ok (Some v) → NoFiles v
kept_other make h found v e = let k = kept_given make found v e in subst NoFiles k.2 (h k.0)

any_other : {X : Type 0} (make : List X → Value) → ((x : List X) → NoFiles (make x)) → (found : Read (List X)) (v : Value) → kept_if_any make found ≡ Ok (Some v) → NoFiles v
any_other make h found v e = let k = any_given make found v e in subst NoFiles k.3 (h k.0)

right_other : (b : Bool) (x v : Value) → NoFiles x → if_right b (Some x) ≡ Ok (Some v) → NoFiles v
right_other true x v h e = let same : x ≡ v = cc e in subst NoFiles same h
right_other false x v h e = absurd (cc e)

external_other : (beside : Entries) (given : Bool) (v : Value) → external_among beside given ≡ Ok (Some v) → NoFiles v
external_other beside true v e = right_other _ (Value.Bool true) v tt e
external_other beside false v e = absurd (cc e)

-- no plain form makes files
plain_other : (plain : Plain) (beside : Entries) (tree : Tree) (v : Value) → plain_value plain beside tree (out-Tree tree) ≡ Ok (Some v) → NoFiles v
plain_other Plain.Text beside tree v e = kept_other Value.Text (λ x. tt) (text_of (out-Tree tree)) v e
plain_other Plain.Bool beside tree v e = kept_other Value.Bool (λ x. tt) (written bool_of (out-Tree tree)) v e
plain_other Plain.Flag beside tree v e = subst NoFiles (flag_given (out-Tree tree) v e) tt
plain_other Plain.Num beside tree v e = kept_other Value.Num (λ x. tt) (written num_of (out-Tree tree)) v e
plain_other Plain.Int beside tree v e = kept_other Value.Int (λ x. tt) (written int_of (out-Tree tree)) v e
plain_other Plain.List beside tree v e = any_other Value.List (λ x. tt) (texts_of (out-Tree tree)) v e
plain_other (Plain.Items form) beside tree v e = any_other Value.List (λ x. tt) (items_of form (out-Tree tree)) v e
plain_other Plain.Pairs beside tree v e = any_other Value.Pairs (λ x. tt) (pairs_of (out-Tree tree)) v e
plain_other Plain.Labels beside tree v e = any_other Value.Pairs (λ x. tt) (labels_of (out-Tree tree)) v e
plain_other Plain.Argv beside tree v e = kept_other Value.Argv (λ x. tt) (texts_of (out-Tree tree)) v e
plain_other Plain.Duration beside tree v e = kept_other Value.Duration (λ x. tt) (written duration_of (out-Tree tree)) v e
plain_other Plain.Size beside tree v e = kept_other Value.Size (λ x. tt) (written size_of (out-Tree tree)) v e
plain_other Plain.Decimal beside tree v e = kept_other Value.Decimal (λ x. tt) (written decimal_of (out-Tree tree)) v e
plain_other (Plain.Word set) beside tree v e = kept_other Value.Text (λ x. tt) (accepted (if_passes (is_word_of set)) (out-Tree tree)) v e
plain_other Plain.Kept beside tree v e = kept_other Value.Kept (λ x. tt) (mapping_in tree (out-Tree tree)) v e
plain_other Plain.Scale beside tree v e =
    let b = bound_given (written num_of (out-Tree tree)) (scale_among beside) (Some v) e in
    right_other (nat_le b.0 100 && same_count b.0 (replicas_among beside)) (Value.Num b.0) v tt b.2
plain_other Plain.Deploy beside tree v e = kept_other Value.Kept (λ x. tt) (deployed tree (out-Tree tree)) v e
plain_other Plain.NetworkMode beside tree v e =
    let b = bound_given (accepted (if_passes (is_word_of words.NetworkModes)) (out-Tree tree)) (λ mode. if_right (not (has_networks beside)) (Some (Value.Text mode))) (Some v) e in
    right_other (not (has_networks beside)) (Value.Text b.0) v tt b.2
plain_other Plain.External beside tree v e =
    let b = bound_given (written bool_of (out-Tree tree)) (external_among beside) (Some v) e in external_other beside b.0 v b.2
plain_other Plain.Test beside tree v e = kept_other Value.Argv (λ x. tt) (test_of (out-Tree tree)) v e
plain_other Plain.PortTarget beside tree v e = kept_other Value.Port (λ x. tt) (accepted target_in (out-Tree tree)) v e
plain_other Plain.Published beside tree v e = kept_other Value.Text (λ x. tt) (accepted published_in (out-Tree tree)) v e
plain_other Plain.Source beside tree v e =
    let b = bound_given (text_of (out-Tree tree)) (source_among beside) (Some v) e in right_other _ (Value.Text b.0) v tt b.2
plain_other Plain.Target beside tree v e = kept_other Value.Text (λ x. tt) (accepted (if_passes has_no_colon) (out-Tree tree)) v e
plain_other Plain.Bind beside tree v e = let b = bind_makes beside tree v e in subst NoFiles b.1 tt
plain_other Plain.NoOptions beside tree v e = absurd (no_value (out-Tree tree) v e)
plain_other Plain.Dropped beside tree v e = absurd (cc e)

same_other : (x v : Value) → NoFiles x → Some x ≡ Some v → NoFiles v
same_other x v h e = let same : x ≡ v = cc e in subst NoFiles same h

logging_other : (l : List Attribute) (v : Value) → logging_from l ≡ Some v → NoFiles v
logging_other [] v e = absurd (cc e)
logging_other (a ∷ others) v e =
    same_other (Value.Logging (record { driver = text_at (a ∷ others) (codes "driver"); options = unwrap_or (pairs_at (a ∷ others) (codes "options")) [] })) v tt e

health_other : (l : List Attribute) (v : Value) → health_from l ≡ Some v → NoFiles v
health_other [] v e = absurd (cc e)
health_other (a ∷ others) v e = same_other (Value.HealthCheck (check_or_none (unwrap_or (bool_at (a ∷ others) (codes "disable")) false) (a ∷ others))) v tt e

-- the forms that make files
abbrev makes_files : Form → Bool
makes_files (Form.Own Row.Secrets) = true
makes_files (Form.Own Row.Configs) = true
makes_files form = false

abbrev one : Option Value → Read (Option Value)
one o = Ok o

-- no other form makes them
row_other : (row : Row) (s : Tree-F Tree) (v : Value) → row_value row s ≡ Ok (Some v) → (makes_files (Form.Own row) ≡ true) ⊎ NoFiles v
row_other Row.Ulimits s v e = inr (any_other Value.Ulimits (λ x. tt) (keyed ulimit_of s) v e)
row_other Row.Logging s v e =
    let b = bound_given (in_mapping (fields_of logging_lines []) s) (λ attributes. one (logging_from attributes)) (Some v) e in
    inr (logging_other b.0 v (let same : logging_from b.0 ≡ Some v = cc b.2 in same))
row_other Row.Ports s v e = inr (any_other Value.Ports (λ x. tt) (listed port_of s) v e)
row_other Row.Mounts s v e = inr (any_other Value.Mounts (λ x. tt) (listed mount_of s) v e)
row_other Row.Secrets s v e = inl refl
row_other Row.Configs s v e = inl refl
row_other Row.Networks s v e = inr (any_other Value.Networks (λ x. tt) (keyed network_use_of s) v e)
row_other Row.HealthCheck s v e =
    let b = bound_given (in_mapping (fields_of health_lines []) s) (λ attributes. one (health_from attributes)) (Some v) e in
    inr (health_other b.0 v (let same : health_from b.0 ≡ Some v = cc b.2 in same))
row_other Row.Dependencies s v e = inr (any_other Value.Dependencies (λ x. tt) (keyed dependency_of s) v e)

form_other : (form : Form) (beside : Entries) (tree : Tree) (v : Value) → given_by form beside tree (out-Tree tree) ≡ Ok (Some v) → (makes_files form ≡ true) ⊎ NoFiles v
form_other (Form.Plain plain) beside tree v e = inr (plain_other plain beside tree v e)
form_other (Form.Own row) beside tree v e = row_other row (out-Tree tree) v e
form_other Form.Consumed beside tree v e = absurd (cc e)

-- the names under which files stand
abbrev is_file_name : List ℕ → Bool
is_file_name name = is_in (codes "secrets" ∷ codes "configs" ∷ []) name

-- a line that makes files has such a name
abbrev is_fit : List ℕ × Form → Bool
is_fit line = not (makes_files line.1) || is_file_name line.0

process_fit : list_all is_fit process_lines ≡ true
unfolding process_lines
process_fit = refl

host_fit : list_all is_fit host_lines ≡ true
unfolding host_lines
host_fit = refl

resource_fit : list_all is_fit resource_lines ≡ true
unfolding resource_lines
resource_fit = refl

joining_fit : list_all is_fit joining_lines ≡ true
unfolding joining_lines
joining_fit = refl

running_fit : list_all is_fit running_lines ≡ true
unfolding running_lines
running_fit = refl

-- what holds of each line holds of a name with its form
line_fit : (lines : Lines Form) → list_all is_fit lines ≡ true → (name : List ℕ) (form : Form) → line_of lines name ≡ Some form → is_fit (name, form) ≡ true
line_fit [] h name form e = absurd (cc e)
line_fit (l ∷ ls) h name form e =
    let both = and_parts (is_fit l) (list_all is_fit ls) h in at (bytes_eq l.0 name) refl both.0 (line_fit ls both.1 name form) e
  where
    at : (b : Bool) → bytes_eq l.0 name ≡ b → is_fit l ≡ true → (line_of ls name ≡ Some form → is_fit (name, form) ≡ true)
        → option_map (λ line. line.1) (cond b (Some l) (find (λ (line : List ℕ × Form). bytes_eq line.0 name) ls)) ≡ Some form → is_fit (name, form) ≡ true
    at true same p more f =
        let text : l.0 ≡ name = same_text l.0 name same in
        let is : l.1 ≡ form = cc f in
        sym (λ i. is_fit (text i, is i)) ∙ p
    at false same p more f = more f

form_fit : (name : List ℕ) (form : Form) → form_of name ≡ Some form → is_fit (name, form) ≡ true
form_fit name form e =
    elim (or_either (line_of process_lines name) _ form e) [
      | inl a ↦ line_fit process_lines process_fit name form a
      | inr b ↦ elim (or_either (line_of host_lines name) _ form b) [
        | inl a ↦ line_fit host_lines host_fit name form a
        | inr b ↦ elim (or_either (line_of resource_lines name) _ form b) [
          | inl a ↦ line_fit resource_lines resource_fit name form a
          | inr b ↦ elim (or_either (line_of joining_lines name) _ form b) [
            | inl a ↦ line_fit joining_lines joining_fit name form a
            | inr b ↦ line_fit running_lines running_fit name form b
          ]
        ]
      ]
    ]

-- of entries with no key twice each is found by its key
abbrev IsFound : Entries → List ℕ × Tree → Type 0
IsFound l entry = entries.value_at l entry.0 ≡ Some entry.1

found_later : (first : List ℕ × Tree) (l others : Entries) → entries.value_at l first.0 ≡ None → OfAll (IsFound l) others → OfAll (IsFound (first ∷ l)) others
found_later first l [] none h = tt
found_later first l (entry ∷ others) none h = (at (bytes_eq entry.0 first.0) refl, found_later first l others none h.1)
  where
    at : (b : Bool) → bytes_eq entry.0 first.0 ≡ b → cond b (Some first.1) (entries.value_at l entry.0) ≡ Some entry.1
    at true same =
        let bad : None ≡ Some entry.1 = sym none ∙ ap (entries.value_at l) (sym (same_text entry.0 first.0 same)) ∙ h.0 in absurd (cc bad)
    at false differs = h.0

each_found : (l : Entries) → Apart l → OfAll (IsFound l) l
each_found [] apart = tt
each_found (entry ∷ l) apart =
    (ap (λ b. cond b (Some entry.1) (entries.value_at l entry.0)) (own_text entry.0), found_later entry l l apart.0 (each_found l apart.1))

-- all files of an attribute have places
abbrev pub HavePlacesUnder : List Attribute → List ℕ → Type 0
HavePlacesUnder attributes name = All HasPlace (unwrap_or (files_at attributes name) [])

module _ (attributes : List Attribute) (secrets : HavePlacesUnder attributes (codes "secrets")) (configs : HavePlacesUnder attributes (codes "configs")) where
  -- files that are found under their name are those of which it is known
  under : (name : List ℕ) (v : Value) → is_file_name name ≡ true → value_at attributes name ≡ Some v → HavePlaces v
  under name (Value.Files files) h is = by (bytes_eq name (codes "secrets")) refl (bytes_eq name (codes "configs")) refl h
    where
      places : (other : List ℕ) → bytes_eq name other ≡ true → HavePlacesUnder attributes other → All HasPlace files
      places other same known =
          let found : value_at attributes other ≡ Some (Value.Files files) = ap (value_at attributes) (sym (same_text name other same)) ∙ is in
          subst (λ (o : Option Value). All HasPlace (unwrap_or (option_and_then as_files o) [])) found known

      by : (b : Bool) → bytes_eq name (codes "secrets") ≡ b → (c : Bool) → bytes_eq name (codes "configs") ≡ c → (b || (c || false)) ≡ true → All HasPlace files
      by true f c g k = places (codes "secrets") f secrets
      by false f true g k = places (codes "configs") g configs
      by false f false g k = absurd (cc k)
  under name v h is = tt

module _ (es : Entries) (apart : Apart es) (attributes : List Attribute) (e : attributes_from es ≡ Ok attributes) where
  abbrev wanted : List (List ℕ)
  wanted = wanted_of_service es

  abbrev sorted : Entries
  sorted = in_byte_order (with_wanting wanted es)

  sorted_differ : Apart sorted
  sorted_differ = sorted_apart (with_wanting wanted es) (apart_wanting wanted es apart)

  walked : each_entry (reads (one_of wanted es)) sorted ≡ Ok attributes
  walked = sym (walks wanted es sorted) ∙ e

  -- where an attribute comes from, which is found by its name
  came : OfAll (From (one_of wanted es) (IsFound sorted)) attributes
  came = each_from (one_of wanted es) (IsFound sorted) sorted attributes (each_found sorted sorted_differ) (gave (one_of wanted es) sorted attributes walked)

  found_itself : (a : Attribute) → From (one_of wanted es) (IsFound sorted) a → value_at attributes a.name ≡ Some a.value
  found_itself a from =
      let up = looked_up (one_of wanted es) sorted attributes sorted_differ (gave (one_of wanted es) sorted attributes walked) a.name in
      let both : Ok (Some a.value) ≡ Ok (value_at attributes a.name) = sym from.2 ∙ sym (ap (looked (one_of wanted es) a.name) from.1) ∙ up in
      let same : Some a.value ≡ value_at attributes a.name = cc both in sym same

  -- the files of an attribute have places where those under both names do
  placed_one : HavePlacesUnder attributes (codes "secrets") → HavePlacesUnder attributes (codes "configs") → (a : Attribute) → From (one_of wanted es) (IsFound sorted) a → HavePlaces a.value
  placed_one secrets configs a from =
      let b = by_form es (form_of a.name) (is_in wanted a.name) from.0 a.value from.2 in
      elim (form_other b.0 es from.0 a.value b.3) [
        | inl makes ↦ under attributes secrets configs a.name a.value (sym (ap (λ m. not m || is_file_name a.name) makes) ∙ form_fit a.name b.0 b.1) (found_itself a from)
        | inr other ↦ without a.value other
      ]
    where
      without : (v : Value) → NoFiles v → HavePlaces v
      without (Value.Files files) other = absurd other
      without v other = tt

  placed_each : HavePlacesUnder attributes (codes "secrets") → HavePlacesUnder attributes (codes "configs") → (l : List Attribute) → OfAll (From (one_of wanted es) (IsFound sorted)) l
      → All (λ attribute. HavePlaces attribute.value) l
  placed_each secrets configs [] h = All-nil (λ attribute. HavePlaces attribute.value)
  placed_each secrets configs (a ∷ others) h =
      All-cons (λ attribute. HavePlaces attribute.value) a others (placed_one secrets configs a h.0) (placed_each secrets configs others h.1)

-- the files that a service uses have places where those under `secrets` and `configs` have them
pub all_have_places : (entries : Entries) (attributes : List Attribute) → ArePlain entries → attributes_of entries ≡ Ok attributes
    → HavePlacesUnder attributes (codes "secrets") → HavePlacesUnder attributes (codes "configs") → All (λ attribute. HavePlaces attribute.value) attributes
all_have_places entries attributes plain e secrets configs =
    let es = own_entries entries in
    let differ = own_apart entries (mapping_apart entries plain.1) in
    placed_each es differ attributes e secrets configs attributes (came es differ attributes e)
