-- The keys of the limits, networks and dependencies that a value has differ.
use Rattle.std.proofs.Common.{◌≡◌, ℕ, Bool, true, false, cond, List, [], ◌∷◌, Some, None, Ok, Err, map, codes, refl, ap, sym, ◌∙◌, subst, ◌⊎◌, inl, inr}
use Rattle.std.specs.Prelude.{ℤ, ◌&&◌, ◌||◌, All, Option, Result, nat_le, not, unwrap_or}
use Rattle.std.specs.List.{IsDistinct, list_any}
use Rattle.std.specs.Str.{bytes_eq}
use Rattle.tree_base.specs.Answers.{◌>>=◌}
use Rattle.tree_base.specs.Entries.{HasDistinctKeys}
use Rattle.tree_base.specs.declared.Tree.{Null, Tree, out-Tree}
use Rattle.tree_base.specs.declared.Tree.TheOpen.{Tree-F}
use Rattle.attribute_types.specs.Answers.{refused}
use Rattle.attribute_types.specs.Lookups.{int_at, texts_at}
use Rattle.attribute_types.specs.Tables.{dependency_lines, network_use_lines, ulimit_lines}
use Rattle.attribute_types.specs.declared.attribute.Attribute.{Attribute}
use Rattle.attribute_types.specs.declared.attribute.Value.{Value}
use Rattle.attribute_types.specs.declared.form.Plain.{Plain}
use Rattle.attribute_types.specs.declared.form.Row.{Row}
use Rattle.attribute_types.specs.declared.refusal.AttributeRefusal.{AttributeRefusal}
use Rattle.attribute_types.specs.declared.refusal.Fault.{Fault}
use Rattle.attribute_types.specs.declared.rows.Dependency.{Dependency}
use Rattle.attribute_types.specs.declared.rows.NetworkUse.{NetworkUse}
use Rattle.attribute_types.specs.declared.rows.Ulimit.{Ulimit}
use Rattle.attribute_scalars.specs.Lists.{if_any, mapping_in}
use Rattle.attribute_scalars.specs.Scalars.{accepted, has_no_colon, if_passes, int_of, is_word_of, num_of, text_of, written}
use Rattle.attribute_types.specs.declared.form.WordSet.TheVariants as words
use Rattle.attribute_scalars.specs.Walks.{Entries, Read, each_entry, in_byte_order}
use Rattle.attribute_scalars.proofs.Ordering.{Rises, rises-by_key}
use Rattle.attribute_values.specs.Fields.{absence, fields_of, unless_null}
use Rattle.attribute_values.specs.Forms.{bind_option, bind_value, external_among, first_label, flag, has_networks, if_right, is_bind, is_of_own, kept, kept_if_any, plain_value, replicas_among, same_count, scale_among, source_among}
use Rattle.attribute_rows.specs.Rows.{dependency_from, dependency_of, entries_in, health_from, in_mapping, keyed, logging_from, network_use_of, row_value, ulimit_of, ulimit_with}
use Rattle.typed_project.specs.DistinctNames.{HasDistinctParts}
use Rattle.project_keys.proofs.Rising.{Single, gifts_rise, rises_differ}

-- what holds of a value that is given
module _ (P : Value → Type 0) where
  abbrev Gives : Read (Option Value) → Type 0
  Gives given = (v : Value) → given ≡ Ok (Some v) → P v

  pub of_kept : {X : Type 0} (make : X → Value) → ((x : X) → P (make x)) → (found : Read X) → Gives (kept make found)
  of_kept make all (Ok x) v e = let same : make x ≡ v = cc e in subst P same (all x)
  of_kept make all (Err refusal) v e = absurd (cc e)

  pub of_kept_if_any : {X : Type 0} (make : List X → Value) → (found : Read (List X)) → ((xs : List X) → found ≡ Ok xs → P (make xs)) → Gives (kept_if_any make found)
  of_kept_if_any make (Ok []) all v e = absurd (cc e)
  of_kept_if_any make (Ok (x ∷ xs)) all v e = let same : make (x ∷ xs) ≡ v = cc e in subst P same (all (x ∷ xs) refl)
  of_kept_if_any make (Err refusal) all v e = absurd (cc e)

  pub of_next : {X : Type 0} (found : Read X) (next : X → Read (Option Value)) → ((x : X) → Gives (next x)) → Gives (found >>= next)
  of_next (Ok x) next all v e = all x v e
  of_next (Err refusal) next all v e = absurd (cc e)

  pub of_right : (b : Bool) (o : Option Value) → ((v : Value) → o ≡ Some v → P v) → Gives (if_right b o)
  of_right true o all v e = let same : o ≡ Some v = cc e in all v same
  of_right false o all v e = absurd (cc e)

  pub of_some : (o : Value) → P o → (v : Value) → Some o ≡ Some v → P v
  of_some o p v e = let same : o ≡ v = cc e in subst P same p

  pub of_known : (o : Option Value) → ((v : Value) → o ≡ Some v → P v) → Gives (Ok o)
  of_known o all v e = let same : o ≡ Some v = cc e in all v same

  pub of_unless_null : (read : Tree-F Tree → Read (Option Value)) → (tree : Tree-F Tree) → Gives (read tree) → (wanted : Bool) → Gives (unless_null wanted read tree)
  of_unless_null read Tree-F.Null all true v e = absurd (cc e)
  of_unless_null read Tree-F.Null all false v e = absurd (cc e)
  of_unless_null read (Tree-F.Scalar text) all wanted v e = all v e
  of_unless_null read (Tree-F.Map entries) all wanted v e = all v e
  of_unless_null read (Tree-F.Seq items) all wanted v e = all v e
  of_unless_null read Tree-F.Reset all wanted v e = all v e
  of_unless_null read (Tree-F.Override inner) all wanted v e = all v e

abbrev D : Value → Type 0
D = HasDistinctParts

flagged : (b : Bool) (v : Value) → flag b ≡ Some v → D v
flagged true v e = of_some D (Value.Bool true) tt v e
flagged false v e = absurd (cc e)

external : (beside : Entries) (b : Bool) → Gives D (external_among beside b)
external beside true v e = of_right D (not (list_any is_of_own beside)) (Some (Value.Bool true)) (of_some D (Value.Bool true) tt) v e
external beside false v e = absurd (cc e)

labelled : (labels : List (List ℕ)) (v : Value) → first_label labels ≡ Some v → D v
labelled [] v e = absurd (cc e)
labelled (label ∷ labels) v e = of_some D (Value.Text label) tt v e

bound : (tree : Tree-F Tree) → Gives D (bind_value tree)
bound (Tree-F.Map entries) v e =
    of_next D (each_entry (λ key tree. bind_option key (out-Tree tree)) (in_byte_order entries)) (λ labels. Ok (first_label labels)) (λ labels. of_known D (first_label labels) (labelled labels)) v e
bound Tree-F.Null v e = absurd (cc e)
bound (Tree-F.Scalar text) v e = absurd (cc e)
bound (Tree-F.Seq items) v e = absurd (cc e)
bound Tree-F.Reset v e = absurd (cc e)
bound (Tree-F.Override inner) v e = absurd (cc e)

no_option : (tree : Tree-F Tree) → Gives D (plain_value Plain.NoOptions [] Null tree)
no_option (Tree-F.Map entries) v e =
    of_next D (each_entry (λ key tree. refused {X = List Value} Fault.UnknownAttribute) (in_byte_order entries)) (λ none. Ok None) (λ none. of_known D None (λ v e. absurd (cc e))) v e
no_option Tree-F.Null v e = absurd (cc e)
no_option (Tree-F.Scalar text) v e = absurd (cc e)
no_option (Tree-F.Seq items) v e = absurd (cc e)
no_option Tree-F.Reset v e = absurd (cc e)
no_option (Tree-F.Override inner) v e = absurd (cc e)

-- a value of an attribute that has none below it
pub of_plain : (plain : Plain) (beside : Entries) (tree : Tree) (shape : Tree-F Tree) → Gives D (plain_value plain beside tree shape)
of_plain Plain.Text beside tree shape = of_kept D Value.Text (λ x. tt) _
of_plain Plain.Bool beside tree shape = of_kept D Value.Bool (λ x. tt) _
of_plain Plain.Flag beside tree shape = of_next D _ _ (λ given. of_known D (flag given) (flagged given))
of_plain Plain.Num beside tree shape = of_kept D Value.Num (λ x. tt) _
of_plain Plain.Int beside tree shape = of_kept D Value.Int (λ x. tt) _
of_plain Plain.List beside tree shape = of_kept_if_any D Value.List _ (λ xs e. tt)
of_plain (Plain.Items form) beside tree shape = of_kept_if_any D Value.List _ (λ xs e. tt)
of_plain Plain.Pairs beside tree shape = of_kept_if_any D Value.Pairs _ (λ xs e. tt)
of_plain Plain.Labels beside tree shape = of_kept_if_any D Value.Pairs _ (λ xs e. tt)
of_plain Plain.Argv beside tree shape = of_kept D Value.Argv (λ x. tt) _
of_plain Plain.Duration beside tree shape = of_kept D Value.Duration (λ x. tt) _
of_plain Plain.Size beside tree shape = of_kept D Value.Size (λ x. tt) _
of_plain Plain.Decimal beside tree shape = of_kept D Value.Decimal (λ x. tt) _
of_plain (Plain.Word set) beside tree shape = of_kept D Value.Text (λ x. tt) _
of_plain Plain.Kept beside tree shape = of_kept D Value.Kept (λ x. tt) _
of_plain Plain.Scale beside tree shape = of_next D (written num_of shape) (scale_among beside) (λ count. of_right D (nat_le count 100 && same_count count (replicas_among beside)) (Some (Value.Num count)) (of_some D (Value.Num count) tt))
of_plain Plain.Deploy beside tree shape = of_kept D Value.Kept (λ x. tt) _
of_plain Plain.NetworkMode beside tree shape =
    of_next D (accepted (if_passes (is_word_of words.NetworkModes)) shape) (λ mode. if_right (not (has_networks beside)) (Some (Value.Text mode))) (λ mode. of_right D (not (has_networks beside)) (Some (Value.Text mode)) (of_some D (Value.Text mode) tt))
of_plain Plain.External beside tree shape = of_next D _ _ (external beside)
of_plain Plain.Test beside tree shape = of_kept D Value.Argv (λ x. tt) _
of_plain Plain.PortTarget beside tree shape = of_kept D Value.Port (λ x. tt) _
of_plain Plain.Published beside tree shape = of_kept D Value.Text (λ x. tt) _
of_plain Plain.Source beside tree shape = of_next D (text_of shape) (source_among beside) (λ text. of_right D (not (is_bind beside) || has_no_colon text) (Some (Value.Text text)) (of_some D (Value.Text text) tt))
of_plain Plain.Target beside tree shape = of_kept D Value.Text (λ x. tt) _
of_plain Plain.Bind beside tree shape = bound shape
of_plain Plain.NoOptions beside tree shape = no_option shape
of_plain Plain.Dropped beside tree shape = of_known D None (λ v e. absurd (cc e))

-- a mapping has no key twice
abbrev pub KeysDiffer : Tree-F Tree → Type 0
KeysDiffer (Tree-F.Map entries) = HasDistinctKeys entries
KeysDiffer tree = Unit {0}

module _ {X : Type 0} (name : X → List ℕ) (read : List ℕ → Tree-F Tree → Read (List X))
    (gives : (key : List ℕ) (tree : Tree-F Tree) (found : List X) → read key tree ≡ Ok found → (found ≡ []) ⊎ ((x : X) × (found ≡ x ∷ []) × (name x ≡ key))) where
  -- what is read under keys that differ has keys that differ
  keyed_differ : (tree : Tree-F Tree) → KeysDiffer tree → (xs : List X) → keyed read tree ≡ Ok xs → IsDistinct bytes_eq (map name xs)
  keyed_differ (Tree-F.Map entries) d xs e =
      rises_differ name xs
      (gifts_rise (λ key value. read key (out-Tree value)) name (λ key tree found f. gives key (out-Tree tree) found f) (in_byte_order entries) xs e
      (rises-by_key (λ (entry : List ℕ × Tree). entry.0) entries d))
  keyed_differ Tree-F.Null d xs e = absurd (cc e)
  keyed_differ (Tree-F.Scalar text) d xs e = absurd (cc e)
  keyed_differ (Tree-F.Seq items) d xs e = absurd (cc e)
  keyed_differ Tree-F.Reset d xs e = absurd (cc e)
  keyed_differ (Tree-F.Override inner) d xs e = absurd (cc e)

-- one, or none, that is given once something is read
module _ {X Y : Type 0} (name : X → List ℕ) (key : List ℕ) (of : Y → List X) (single : (y : Y) → (of y ≡ []) ⊎ ((x : X) × (of y ≡ x ∷ []) × (name x ≡ key))) where
  once : (found : Read Y) (xs : List X) → (found >>= λ y. Ok (of y)) ≡ Ok xs → (xs ≡ []) ⊎ ((x : X) × (xs ≡ x ∷ []) × (name x ≡ key))
  once (Err refusal) xs e = absurd (cc e)
  once (Ok y) xs e = let same : of y ≡ xs = cc e in subst (λ (l : List X). (l ≡ []) ⊎ ((x : X) × (l ≡ x ∷ []) × (name x ≡ key))) same (single y)

abbrev limit_key : Ulimit → List ℕ
limit_key limit = limit.key

limit_with : (key : List ℕ) (soft hard : Option ℤ) → (ulimit_with key soft hard ≡ []) ⊎ ((x : Ulimit) × (ulimit_with key soft hard ≡ x ∷ []) × (limit_key x ≡ key))
limit_with key (Some soft) (Some hard) = inr (record { key = key; soft = soft; hard = hard }, refl, refl)
limit_with key (Some soft) None = inl refl
limit_with key None hard = inl refl

limit_single : (key : List ℕ) (tree : Tree-F Tree) (found : List Ulimit) → ulimit_of key tree ≡ Ok found → (found ≡ []) ⊎ ((x : Ulimit) × (found ≡ x ∷ []) × (limit_key x ≡ key))
limit_single key Tree-F.Null found e = let none : [] ≡ found = cc e in inl (sym none)
limit_single key (Tree-F.Map entries) found e =
    once limit_key key (λ (attributes : List Attribute). ulimit_with key (int_at attributes (codes "soft")) (int_at attributes (codes "hard")))
    (λ attributes. limit_with key (int_at attributes (codes "soft")) (int_at attributes (codes "hard"))) (fields_of ulimit_lines (codes "hard" ∷ codes "soft" ∷ []) entries) found e
limit_single key (Tree-F.Scalar text) found e = once limit_key key (λ (number : ℤ). record { key = key; soft = number; hard = number } ∷ []) (λ number. inr (_, refl, refl)) (written int_of (Tree-F.Scalar text)) found e
limit_single key (Tree-F.Seq items) found e = absurd (cc e)
limit_single key Tree-F.Reset found e = absurd (cc e)
limit_single key (Tree-F.Override inner) found e = absurd (cc e)

abbrev joined_key : NetworkUse → List ℕ
joined_key joined = joined.key

abbrev joined_from : List ℕ → List Attribute → List NetworkUse
joined_from key attributes = record { key = key; aliases = unwrap_or (texts_at attributes (codes "aliases")) [] } ∷ []

joined_single : (key : List ℕ) (tree : Tree-F Tree) (found : List NetworkUse) → network_use_of key tree ≡ Ok found → (found ≡ []) ⊎ ((x : NetworkUse) × (found ≡ x ∷ []) × (joined_key x ≡ key))
joined_single key Tree-F.Null found e = let one : record { key = key; aliases = [] } ∷ [] ≡ found = cc e in inr (_, sym one, refl)
joined_single key (Tree-F.Map entries) found e = once joined_key key (joined_from key) (λ attributes. inr (_, refl, refl)) (fields_of network_use_lines [] entries) found e
joined_single key (Tree-F.Scalar text) found e = absurd (cc e)
joined_single key (Tree-F.Seq items) found e = absurd (cc e)
joined_single key Tree-F.Reset found e = absurd (cc e)
joined_single key (Tree-F.Override inner) found e = absurd (cc e)

abbrev need_key : Dependency → List ℕ
need_key need = need.key

need_single : (key : List ℕ) (tree : Tree-F Tree) (found : List Dependency) → dependency_of key tree ≡ Ok found → (found ≡ []) ⊎ ((x : Dependency) × (found ≡ x ∷ []) × (need_key x ≡ key))
need_single key Tree-F.Null found e = let one : dependency_from key [] ∷ [] ≡ found = cc e in inr (_, sym one, refl)
need_single key (Tree-F.Map entries) found e = once need_key key (λ (attributes : List Attribute). dependency_from key attributes ∷ []) (λ attributes. inr (_, refl, refl)) (fields_of dependency_lines [] entries) found e
need_single key (Tree-F.Scalar text) found e = absurd (cc e)
need_single key (Tree-F.Seq items) found e = absurd (cc e)
need_single key Tree-F.Reset found e = absurd (cc e)
need_single key (Tree-F.Override inner) found e = absurd (cc e)

logged : (attributes : List Attribute) (v : Value) → logging_from attributes ≡ Some v → D v
logged [] v e = absurd (cc e)
logged (attribute ∷ attributes) v e = of_some D _ tt v e

checked : (attributes : List Attribute) (v : Value) → health_from attributes ≡ Some v → D v
checked [] v e = absurd (cc e)
checked (attribute ∷ attributes) v e = of_some D _ tt v e

-- a value of an attribute that has attributes of its own
pub of_row : (row : Row) (tree : Tree-F Tree) → KeysDiffer tree → Gives D (row_value row tree)
unfolding IsDistinct
of_row Row.Ulimits tree d = of_kept_if_any D Value.Ulimits _ (keyed_differ limit_key ulimit_of limit_single tree d)
of_row Row.Logging tree d = of_next D _ _ (λ attributes. of_known D (logging_from attributes) (logged attributes))
of_row Row.Ports tree d = of_kept_if_any D Value.Ports _ (λ xs e. tt)
of_row Row.Mounts tree d = of_kept_if_any D Value.Mounts _ (λ xs e. tt)
of_row Row.Secrets tree d = of_kept_if_any D Value.Files _ (λ xs e. tt)
of_row Row.Configs tree d = of_kept_if_any D Value.Files _ (λ xs e. tt)
of_row Row.Networks tree d = of_kept_if_any D Value.Networks _ (keyed_differ joined_key network_use_of joined_single tree d)
of_row Row.HealthCheck tree d = of_next D _ _ (λ attributes. of_known D (health_from attributes) (checked attributes))
of_row Row.Dependencies tree d = of_kept_if_any D Value.Dependencies _ (keyed_differ need_key dependency_of need_single tree d)
