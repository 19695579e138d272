-- Mounts are read again.
use Rattle.std.proofs.Common.{◌≡◌, ◌∙◌, ℕ, Bool, true, false, cond, not, List, [], ◌∷◌, ◌++◌, map, codes, Some, None, Ok, Err, is_some, inl, inr, unwrap_or, refl, ap, sym, subst}
use Rattle.std.specs.Prelude.{◌||◌, Option}
use Rattle.std.specs.Option.{ok_or, option_and_then, option_map, option_map_or}
use Rattle.std.specs.Str.{bytes_eq}
use Rattle.short_forms.specs.MountLaws.{type_word}
use Rattle.short_forms.specs.declared.mounts.Mount.{Mount}
use Rattle.short_forms.specs.declared.mounts.MountKind.{MountKind}
use Rattle.tree_base.specs.Answers.{◌>>=◌}
use Rattle.tree_base.specs.Entries as entries
use Rattle.tree_base.specs.declared.Step.TheVariants.{Key}
use Rattle.tree_base.specs.declared.tree.Tree.{Tree, out-Tree}
use Rattle.tree_base.specs.declared.tree.Tree.TheOpen.{Tree-F}
use Rattle.tree_base.specs.declared.tree.Tree.TheVariants.{Map, Null, Scalar, Seq, outs-Map, outs-Null, outs-Scalar}
use Rattle.attribute_types.specs.Answers.{refused, under}
use Rattle.attribute_types.specs.Lookups.{as_bool, as_text, text_at}
use Rattle.attribute_types.specs.Tables.{line_of, mount_lines}
use Rattle.attribute_types.specs.Values.{value_at}
use Rattle.attribute_types.specs.declared.attribute.Attribute.{Attribute}
use Rattle.attribute_types.specs.declared.attribute.Value.{Value}
use Rattle.attribute_types.specs.declared.form.Plain.{Plain}
use Rattle.attribute_types.specs.declared.form.Row.{Row}
use Rattle.attribute_types.specs.declared.form.WordSet.TheVariants as words
use Rattle.attribute_types.specs.declared.refusal.AttributeRefusal.TheVariants.{At}
use Rattle.attribute_types.specs.declared.refusal.Fault.{Fault}
use Rattle.attribute_scalars.specs.Scalars.{accepted, bool_of, has_no_colon, if_passes, is_word_of, text_in, text_of, written}
use Rattle.attribute_scalars.specs.Walks.{Entries, Read, each_entry, in_byte_order, is_in, with_wanting}
use Rattle.attribute_values.specs.Fields.{fields_of}
use Rattle.attribute_values.specs.Forms.{bind_option, bind_value, first_label, if_right, is_bind, label_in, made_path, plain_value, source_among, source_of, text_under}
use Rattle.attribute_rows.specs.Rows.{in_mapping, listed, mount_from, mount_kind, mount_of, row_value, wanted_of_mount}
use Rattle.attribute_paths.proofs.Trees.{OfAll}
use Rattle.laws_attributes.proofs.Fields.{Reads, fields_back}
use Rattle.laws_attributes.proofs.FileRow.{passed_text, passing_makes, target_shown}
use Rattle.laws_attributes.proofs.Full.{fields_there}
use Rattle.laws_attributes.proofs.Gifts.{shown_by, shown_value}
use Rattle.laws_attributes.proofs.Lookups.{same_text}
use Rattle.laws_attributes.proofs.PlainForms.{any_back, any_given, bound_given, flag_shown, kept_given, map_there, scalar_there, seq_there, text_scalar}
use Rattle.laws_attributes.proofs.PortRow.{word_shown}
use Rattle.laws_attributes.proofs.RowFields.{OfRow, made_at, mapped_row, one_row, or_else, present_all, present_at, present_in_order, row_at}
use Rattle.laws_attributes.proofs.RowForms.{RowAgain, flag_found, found_at, or_none, present_found, text_made}
use Rattle.laws_attributes.proofs.RowWalks.{IsListed, listed_again, mapping_again, mapping_read}
use Rattle.laws_attributes.proofs.Shown.{flag_value, mount_leaf, mount_rows, mount_tree, present}
use Rattle.laws_attributes.proofs.Wanting.{Kept, kept_wanting, wanted_there}

bind_line : line_of mount_lines (codes "bind") ≡ Some Plain.Bind
unfolding mount_lines
bind_line = refl

flag_line : line_of mount_lines (codes "read_only") ≡ Some Plain.Flag
unfolding mount_lines
flag_line = refl

source_line : line_of mount_lines (codes "source") ≡ Some Plain.Source
unfolding mount_lines
source_line = refl

target_line : line_of mount_lines (codes "target") ≡ Some Plain.Target
unfolding mount_lines
target_line = refl

type_line : line_of mount_lines (codes "type") ≡ Some (Plain.Word words.MountTypes)
unfolding mount_lines
type_line = refl

-- what a mount has to have
abbrev names_by : Bool → List (List ℕ)
names_by b = cond b (codes "source" ∷ codes "target" ∷ codes "type" ∷ []) (codes "target" ∷ codes "type" ∷ [])

-- the type is `bind`
abbrev binds : List ℕ → Bool
binds word = bytes_eq (codes "bind") word

abbrev IsLabel : List ℕ → Type 0
IsLabel text = is_word_of words.Labels text ≡ true

-- a mount as it is read
record IsMount (mount : Mount) : Type 0 where
  label : (x : List ℕ) → mount.selinux ≡ Some x → IsLabel x
  target : has_no_colon mount.target ≡ true
  source : (x : List ℕ) → mount.source ≡ Some x → (not (binds (type_word mount.kind)) || has_no_colon x) ≡ true
  bound : binds (type_word mount.kind) ≡ true → is_some mount.source ≡ true

label_read : (label : List ℕ) → IsLabel label → label_in (out-Tree (Scalar label)) ≡ Ok (label ∷ [])
label_read label is = ap label_in (outs-Scalar label) ∙ at (is_word_of words.Labels label) is
  where
    labels : List ℕ → Read (List (List ℕ))
    labels l = Ok (l ∷ [])

    at : (b : Bool) → b ≡ true → (ok_or (cond b (Some label) None) (At Fault.BadValue []) >>= labels) ≡ Ok (label ∷ [])
    at true e = refl
    at false e = absurd (cc e)

-- a label is read again of its mapping
label_again : (label : List ℕ) → IsLabel label → bind_value (out-Tree (Map ((codes "selinux", Scalar label) ∷ []))) ≡ Ok (Some (Value.Text label))
label_again label is = ap bind_value (outs-Map ((codes "selinux", Scalar label) ∷ [])) ∙ ap through (label_read label is)
  where
    none_more : Read (List (List ℕ))
    none_more = Ok []

    texts : List (List ℕ) → Read (List (List ℕ))
    texts l = Ok l

    one : Option Value → Read (Option Value)
    one o = Ok o

    through : Read (List (List ℕ)) → Read (Option Value)
    through r = (under (Key (codes "selinux")) r >>= λ found. none_more >>= λ more. texts (found ++ more)) >>= λ labels. one (first_label labels)

-- what holds of all that each entry gives holds of all that they give
each_gives : {X : Type 0} (P : X → Type 0) (read : List ℕ → Tree → Read (List X)) → ((k : List ℕ) (t : Tree) (found : List X) → read k t ≡ Ok found → OfAll P found)
    → (es : Entries) (xs : List X) → each_entry read es ≡ Ok xs → OfAll P xs
each_gives P read each [] xs e = let none : [] ≡ xs = cc e in subst (OfAll P) none tt
each_gives {X} P read each (f ∷ es) xs e = at (read f.0 f.1) refl (each_entry read es) refl (each_gives P read each es) e
  where
    joined : (a b : List X) → OfAll P a → OfAll P b → OfAll P (a ++ b)
    joined [] b h k = k
    joined (x ∷ a) b h k = (h.0, joined a b h.1 k)

    at : (r : Read (List X)) → read f.0 f.1 ≡ r → (s : Read (List X)) → each_entry read es ≡ s → ((rest : List X) → each_entry read es ≡ Ok rest → OfAll P rest)
        → (under (Key f.0) r >>= λ found. s >>= λ more. Ok (found ++ more)) ≡ Ok xs → OfAll P xs
    at (Err refusal) p s q more g = absurd (cc g)
    at (Ok found) p (Err refusal) q more g = absurd (cc g)
    at (Ok found) p (Ok rest) q more g =
        let same : found ++ rest ≡ xs = cc g in subst (OfAll P) same (joined found rest (each f.0 f.1 found p) (more rest q))

label_given : (s : Tree-F Tree) (found : List (List ℕ)) → label_in s ≡ Ok found → OfAll IsLabel found
label_given Tree-F.Null found e = let none : [] ≡ found = cc e in subst (OfAll IsLabel) none tt
label_given (Tree-F.Scalar text) found e = at (is_word_of words.Labels text) refl e
  where
    labels : List ℕ → Read (List (List ℕ))
    labels l = Ok (l ∷ [])

    at : (b : Bool) → is_word_of words.Labels text ≡ b → (ok_or (cond b (Some text) None) (At Fault.BadValue []) >>= labels) ≡ Ok found → OfAll IsLabel found
    at true is g = let same : text ∷ [] ≡ found = cc g in subst (OfAll IsLabel) same (is, tt)
    at false is g = absurd (cc g)
label_given (Tree-F.Map es) found e = absurd (cc e)
label_given (Tree-F.Seq items) found e = absurd (cc e)
label_given Tree-F.Reset found e = absurd (cc e)
label_given (Tree-F.Override inner) found e = absurd (cc e)

right_none : (b : Bool) (found : List (List ℕ)) → if_right {X = List (List ℕ)} b [] ≡ Ok found → [] ≡ found
right_none true found g = cc g
right_none false found g = absurd (cc g)

path_none : (s : Tree-F Tree) (found : List (List ℕ)) → (written bool_of s >>= λ is_made. if_right {X = List (List ℕ)} is_made []) ≡ Ok found → [] ≡ found
path_none s found g = let b = bound_given (written bool_of s) (λ is_made. if_right {X = List (List ℕ)} is_made []) found g in right_none b.0 found b.2

path_empty : (s : Tree-F Tree) (found : List (List ℕ)) → made_path s ≡ Ok found → [] ≡ found
path_empty Tree-F.Null found g = cc g
path_empty (Tree-F.Scalar text) found g = path_none (Tree-F.Scalar text) found g
path_empty (Tree-F.Map es) found g = path_none (Tree-F.Map es) found g
path_empty (Tree-F.Seq items) found g = path_none (Tree-F.Seq items) found g
path_empty Tree-F.Reset found g = path_none Tree-F.Reset found g
path_empty (Tree-F.Override inner) found g = path_none (Tree-F.Override inner) found g

path_given : (s : Tree-F Tree) (found : List (List ℕ)) → made_path s ≡ Ok found → OfAll IsLabel found
path_given s found e = subst (OfAll IsLabel) (path_empty s found e) tt

option_given : (key : List ℕ) (s : Tree-F Tree) (found : List (List ℕ)) → bind_option key s ≡ Ok found → OfAll IsLabel found
option_given key s found e = at (bytes_eq key (codes "create_host_path")) (bytes_eq key (codes "selinux")) e
  where
    at : (b c : Bool) → cond b (made_path s) (cond c (label_in s) (refused Fault.UnknownAttribute)) ≡ Ok found → OfAll IsLabel found
    at true c g = path_given s found g
    at false true g = label_given s found g
    at false false g = absurd (cc g)

pub bind_makes : (es : Entries) (tree : Tree) (v : Value) → plain_value Plain.Bind es tree (out-Tree tree) ≡ Ok (Some v) → (x : List ℕ) × (Value.Text x ≡ v) × IsLabel x
bind_makes es tree v e = by (out-Tree tree) e
  where
    one : Option Value → Read (Option Value)
    one o = Ok o

    firsts : (labels : List (List ℕ)) → OfAll IsLabel labels → first_label labels ≡ Some v → (x : List ℕ) × (Value.Text x ≡ v) × IsLabel x
    firsts [] h g = absurd (cc g)
    firsts (label ∷ labels) h g = (label, cc g, h.0)

    by : (s : Tree-F Tree) → bind_value s ≡ Ok (Some v) → (x : List ℕ) × (Value.Text x ≡ v) × IsLabel x
    by (Tree-F.Map options) g =
        let b = bound_given (each_entry (λ key t. bind_option key (out-Tree t)) (in_byte_order options)) (λ labels. one (first_label labels)) (Some v) g in
        firsts b.0 (each_gives IsLabel (λ key t. bind_option key (out-Tree t)) (λ key t found p. option_given key (out-Tree t) found p) (in_byte_order options) b.0 b.1) (let same : first_label b.0 ≡ Some v = cc b.2 in same)
    by Tree-F.Null g = absurd (cc g)
    by (Tree-F.Scalar text) g = absurd (cc g)
    by (Tree-F.Seq items) g = absurd (cc g)
    by Tree-F.Reset g = absurd (cc g)
    by (Tree-F.Override inner) g = absurd (cc g)

type_passes : (kind : MountKind) → is_word_of words.MountTypes (type_word kind) ≡ true
type_passes MountKind.Bind = refl
type_passes MountKind.Volume = refl
type_passes MountKind.Tmpfs = refl

kind_again : (kind : MountKind) → mount_kind (type_word kind) ≡ kind
kind_again MountKind.Bind = refl
kind_again MountKind.Volume = refl
kind_again MountKind.Tmpfs = refl

module _ (mount : Mount) (is : IsMount mount) where
  abbrev again : List Attribute
  again = present (mount_rows mount)

  abbrev shown : Entries
  shown = shown_by mount_leaf again

  type_text : text_under shown (codes "type") ≡ Some (type_word mount.kind)
  type_text =
      ap (option_and_then (λ tree. text_in (out-Tree tree))) (shown_value mount_leaf again (codes "type") (Value.Text (type_word mount.kind)) (present_at (mount_rows mount) (codes "type")))
      ∙ ap text_in (outs-Scalar (type_word mount.kind))

  binds_again : is_bind shown ≡ binds (type_word mount.kind)
  binds_again = ap (λ o. option_map_or (bytes_eq (codes "bind")) o false) type_text

  abbrev Again : List (List ℕ) → Attribute → Type 0
  Again names a = Reads mount_lines names shown mount_leaf a

  source_again : (x : List ℕ) → mount.source ≡ Some x → source_of shown (out-Tree (Scalar x)) ≡ Ok (Some (Value.Text x))
  source_again x e =
      ap (λ r. r >>= source_among shown) (text_scalar x)
      ∙ ap (λ b. if_right (not b || has_no_colon x) (Some (Value.Text x))) binds_again
      ∙ ap (λ b. if_right b (Some (Value.Text x))) (is.source x e)

  flag_row : (names : List (List ℕ)) (b : Bool) → OfRow (Again names) (codes "read_only", flag_value b)
  flag_row names true v e = one_row (Again names) (codes "read_only") (Value.Bool true) (Plain.Flag, flag_line, scalar_there (codes "true"), flag_shown.1 shown) v e
  flag_row names false v e = absurd (cc e)

  rows_again : (names : List (List ℕ)) → OfAll (OfRow (Again names)) (mount_rows mount)
  rows_again names = (
    mapped_row (Again names) (codes "bind") Value.Text mount.selinux (λ x e. (Plain.Bind, bind_line, map_there _, label_again x (is.label x e))),
    (
      flag_row names mount.read_only,
      (
        mapped_row (Again names) (codes "source") Value.Text mount.source (λ x e. (Plain.Source, source_line, scalar_there x, source_again x e)),
        (
          one_row (Again names) (codes "target") (Value.Text mount.target) (Plain.Target, target_line, scalar_there mount.target, (target_shown mount.target is.target).1 shown),
          (
            one_row (Again names) (codes "type") (Value.Text (type_word mount.kind))
                (Plain.Word words.MountTypes, type_line, scalar_there (type_word mount.kind), (word_shown words.MountTypes (type_word mount.kind) (type_passes mount.kind)).1 shown),
            tt,
          ),
        ),
      ),
    ),
  )

  found_in : (k : List ℕ) → is_some (row_at (mount_rows mount) k) ≡ true → is_some (value_at again k) ≡ true
  found_in k h = ap is_some (present_at (mount_rows mount) k) ∙ h

  there : (b : Bool) → is_bind shown ≡ b → OfAll (λ name. is_some (value_at again name) ≡ true) (names_by b)
  there true e = (found_in (codes "source") (some_source mount.source (is.bound (sym binds_again ∙ e))), (found_in (codes "target") refl, (found_in (codes "type") refl, tt)))
    where
      some_source : (o : Option (List ℕ)) → is_some o ≡ true → is_some (or_else (option_map Value.Text o) None) ≡ true
      some_source None h = absurd (cc h)
      some_source (Some x) h = refl
  there false e = (found_in (codes "target") refl, (found_in (codes "type") refl, tt))

  read : fields_of mount_lines (wanted_of_mount shown) shown ≡ Ok again
  read =
      fields_back mount_lines (wanted_of_mount shown) mount_leaf again (present_in_order (mount_rows mount) refl) (there (is_bind shown) refl)
      (present_all (Again (wanted_of_mount shown)) (mount_rows mount) (rows_again (wanted_of_mount shown)))

  from_again : mount_from again ≡ mount
  from_again = (λ i. record {
    kind = (ap (λ o. mount_kind (unwrap_or o [])) (present_found as_text Value.Text text_made (mount_rows mount) (codes "type") (Some (type_word mount.kind)) refl) ∙ kind_again mount.kind) i;
    source = present_found as_text Value.Text text_made (mount_rows mount) (codes "source") mount.source refl i;
    target = unwrap_or (present_found as_text Value.Text text_made (mount_rows mount) (codes "target") (Some mount.target) refl i) [];
    read_only = (ap (λ o. is_some (option_and_then as_bool o)) (present_at (mount_rows mount) (codes "read_only") ∙ or_none (flag_value mount.read_only)) ∙ flag_found mount.read_only) i;
    selinux = present_found as_text Value.Text text_made (mount_rows mount) (codes "bind") mount.selinux refl i;
  })

  mount_listed : IsListed mount_tree mount_of (λ m. Unit {0}) mount
  mount_listed = mapping_again mount_of shown mount (ap (λ r. r >>= λ attributes. ok_mount (mount_from attributes)) read ∙ ap ok_mount from_again)
    where
      ok_mount : Mount → Read Mount
      ok_mount m = Ok m

source_makes : (es : Entries) (tree : Tree) (v : Value) → plain_value Plain.Source es tree (out-Tree tree) ≡ Ok (Some v) → (x : List ℕ) × (Value.Text x ≡ v) × ((not (is_bind es) || has_no_colon x) ≡ true)
source_makes es tree v e =
    let b = bound_given (text_of (out-Tree tree)) (source_among es) (Some v) e in
    let r = right (not (is_bind es) || has_no_colon b.0) (Value.Text b.0) b.2 in (b.0, r.0, r.1)
  where
    right : (b : Bool) (x : Value) → if_right b (Some x) ≡ Ok (Some v) → (x ≡ v) × (b ≡ true)
    right true x g = (cc g, refl)
    right false x g = absurd (cc g)

-- a text that isn't another, either way
differs : (word other : List ℕ) → bytes_eq word other ≡ false → bytes_eq word other ≡ false
differs word other e = e

-- the words of types
type_back : (word : List ℕ) → is_word_of words.MountTypes word ≡ true → type_word (mount_kind word) ≡ word
type_back word is = at (bytes_eq word (codes "bind")) refl (bytes_eq word (codes "tmpfs")) refl (bytes_eq word (codes "volume")) refl
  where
    at : (b : Bool) → bytes_eq word (codes "bind") ≡ b → (c : Bool) → bytes_eq word (codes "tmpfs") ≡ c → (d : Bool) → bytes_eq word (codes "volume") ≡ d
        → type_word (cond b MountKind.Bind (cond c MountKind.Tmpfs MountKind.Volume)) ≡ word
    at true e c f d g = sym (same_text word (codes "bind") e)
    at false e true f d g = sym (same_text word (codes "tmpfs") f)
    at false e false f true g = sym (same_text word (codes "volume") g)
    at false e false f false g =
        let none : is_word_of words.MountTypes word ≡ false =
        (λ i. differs word (codes "bind") e i || (differs word (codes "volume") g i || (differs word (codes "tmpfs") f i || false))) in
        let bad : true ≡ false = sym is ∙ none in absurd (cc bad)

-- the mount of attributes
module _ (es : Entries) (attributes : List Attribute) (names : List (List ℕ)) (b : Bool) (b_is : is_bind es ≡ b) (names_are : names ≡ names_by b)
    (f : fields_of mount_lines names es ≡ Ok attributes) where
  among : (k : List ℕ) → ((c : Bool) → is_in (names_by c) k ≡ true) → is_in names k ≡ true
  among k h = ap (λ l. is_in l k) names_are ∙ h b

  there_in : (k : List ℕ) → ((c : Bool) → (l : List (List ℕ)) → OfAll (λ name. is_some (entries.value_at (with_wanting l es) name) ≡ true) (names_by c) → is_some (entries.value_at (with_wanting l es) k) ≡ true)
      → is_some (entries.value_at (with_wanting names es) k) ≡ true
  there_in k h = h b names (subst (λ (l : List (List ℕ)). OfAll (λ name. is_some (entries.value_at (with_wanting names es) name) ≡ true) l) names_are (wanted_there names es))

  pick_target : (c : Bool) (l : List (List ℕ)) → OfAll (λ name. is_some (entries.value_at (with_wanting l es) name) ≡ true) (names_by c) → is_some (entries.value_at (with_wanting l es) (codes "target")) ≡ true
  pick_target true l h = h.1.0
  pick_target false l h = h.0

  pick_type : (c : Bool) (l : List (List ℕ)) → OfAll (λ name. is_some (entries.value_at (with_wanting l es) name) ≡ true) (names_by c) → is_some (entries.value_at (with_wanting l es) (codes "type")) ≡ true
  pick_type true l h = h.1.1.0
  pick_type false l h = h.1.0

  target_in_names : (c : Bool) → is_in (names_by c) (codes "target") ≡ true
  target_in_names true = refl
  target_in_names false = refl

  type_in_names : (c : Bool) → is_in (names_by c) (codes "type") ≡ true
  type_in_names true = refl
  type_in_names false = refl

  targets : (tree : Tree) × (entries.value_at (with_wanting names es) (codes "target") ≡ Some tree) × (plain_value Plain.Target es tree (out-Tree tree) ≡ Ok (value_at attributes (codes "target")))
      × (is_some (value_at attributes (codes "target")) ≡ true)
  targets = fields_there mount_lines names es attributes f (codes "target") Plain.Target target_line refl (among (codes "target") target_in_names) (there_in (codes "target") pick_target)

  types : (tree : Tree) × (entries.value_at (with_wanting names es) (codes "type") ≡ Some tree) × (plain_value (Plain.Word words.MountTypes) es tree (out-Tree tree) ≡ Ok (value_at attributes (codes "type")))
      × (is_some (value_at attributes (codes "type")) ≡ true)
  types = fields_there mount_lines names es attributes f (codes "type") (Plain.Word words.MountTypes) type_line refl (among (codes "type") type_in_names) (there_in (codes "type") pick_type)

  -- the word of the type
  type_found : (word : List ℕ) × (value_at attributes (codes "type") ≡ Some (Value.Text word)) × (is_word_of words.MountTypes word ≡ true) × (is_bind es ≡ binds word)
  type_found = by (value_at attributes (codes "type")) refl
    where
      by : (o : Option Value) → value_at attributes (codes "type") ≡ o → (word : List ℕ) × (o ≡ Some (Value.Text word)) × (is_word_of words.MountTypes word ≡ true) × (is_bind es ≡ binds word)
      by None is = let bad : false ≡ true = sym (ap is_some is) ∙ types.3 in absurd (cc bad)
      by (Some v) is =
          let k = kept_given Value.Text (accepted (if_passes (is_word_of words.MountTypes)) (out-Tree types.0)) v (types.2 ∙ (λ i. Ok (is i))) in
          let p = passed_text (is_word_of words.MountTypes) (out-Tree types.0) k.0 k.1 in
          (k.0, (λ i. Some (sym k.2 i)), p.1, bound (kept_wanting names es (codes "type")) k.0 p.0)
        where
          bound : Kept es (with_wanting names es) (codes "type") → (word : List ℕ) → out-Tree types.0 ≡ Tree-F.Scalar word → is_bind es ≡ binds word
          bound (inl same) word shape =
              ap (λ o. option_map_or (bytes_eq (codes "bind")) (option_and_then (λ tree. text_in (out-Tree tree)) o) false) (sym same ∙ types.1)
              ∙ ap (λ s. option_map_or (bytes_eq (codes "bind")) (text_in s) false) shape
          bound (inr null) word shape =
              let is_null_tree : Some types.0 ≡ Some Null = sym types.1 ∙ null.1 in
              let null_tree : types.0 ≡ Null = cc is_null_tree in
              let bad : Tree-F.Scalar word ≡ Tree-F.Null = sym shape ∙ ap (λ t. out-Tree t) null_tree ∙ outs-Null in absurd (cc bad)

  -- what is made of the attributes is a mount as it is read
  mount_is : IsMount (mount_from attributes)
  mount_is =
      let t = type_found in
      let word : text_at attributes (codes "type") ≡ Some t.0 = ap (option_and_then as_text) t.1 in
      let kind : binds (type_word (mount_kind (unwrap_or (text_at attributes (codes "type")) []))) ≡ is_bind es =
      ap (λ o. binds (type_word (mount_kind (unwrap_or o [])))) word ∙ ap binds (type_back t.0 t.2) ∙ sym t.3 in
      let l = made_at mount_lines names es attributes f Value.Text IsLabel (codes "bind") Plain.Bind bind_line (bind_makes es) in
      let g = made_at mount_lines names es attributes f Value.Text (λ x. has_no_colon x ≡ true) (codes "target") Plain.Target target_line (passing_makes Plain.Target has_no_colon es (λ tree. refl)) in
      let s = made_at mount_lines names es attributes f Value.Text (λ x. (not (is_bind es) || has_no_colon x) ≡ true) (codes "source") Plain.Source source_line (source_makes es) in
      record {
        label = λ x e. l.2 x (sym (found_at as_text Value.Text text_made attributes (codes "bind") l.0 l.1) ∙ e);
        target = target_right g.0 g.1 g.2;
        source = λ x e. ap (λ c. not c || has_no_colon x) kind ∙ s.2 x (sym (found_at as_text Value.Text text_made attributes (codes "source") s.0 s.1) ∙ e);
        bound = λ e. source_there (sym b_is ∙ sym kind ∙ e) s.0 s.1;
      }
    where
      target_right : (o : Option (List ℕ)) → value_at attributes (codes "target") ≡ option_map Value.Text o → ((x : List ℕ) → o ≡ Some x → has_no_colon x ≡ true)
          → has_no_colon (unwrap_or (text_at attributes (codes "target")) []) ≡ true
      target_right None is h = let bad : false ≡ true = sym (ap is_some is) ∙ targets.3 in absurd (cc bad)
      target_right (Some x) is h = ap (λ o. has_no_colon (unwrap_or (option_and_then as_text o) [])) is ∙ h x refl

      source_there : b ≡ true → (o : Option (List ℕ)) → value_at attributes (codes "source") ≡ option_map Value.Text o → is_some (text_at attributes (codes "source")) ≡ true
      source_there so o is =
          let names_so : names ≡ names_by true = names_are ∙ ap names_by so in
          let in_names : is_in names (codes "source") ≡ true = ap (λ l. is_in l (codes "source")) names_so in
          let all = subst (λ (l : List (List ℕ)). OfAll (λ name. is_some (entries.value_at (with_wanting names es) name) ≡ true) l) names_so (wanted_there names es) in
          let found = fields_there mount_lines names es attributes f (codes "source") Plain.Source source_line refl in_names all.0 in
          by o is found.3
        where
          by : (o : Option (List ℕ)) → value_at attributes (codes "source") ≡ option_map Value.Text o → is_some (value_at attributes (codes "source")) ≡ true → is_some (text_at attributes (codes "source")) ≡ true
          by None is some = let bad : false ≡ true = sym (ap is_some is) ∙ some in absurd (cc bad)
          by (Some x) is some = ap (λ v. is_some (option_and_then as_text v)) is

mount_item : (s : Tree-F Tree) (mount : Mount) → in_mapping mount_of s ≡ Ok mount → Unit {0} → IsListed mount_tree mount_of (λ m. Unit {0}) mount
mount_item s mount e unit =
    let m = mapping_read mount_of s mount e in
    let b = bound_given (fields_of mount_lines (wanted_of_mount m.0) m.0) (λ attributes. ok_mount (mount_from attributes)) mount m.1 in
    let whole : mount_from b.0 ≡ mount = cc b.2 in
    subst (IsListed mount_tree mount_of (λ m. Unit {0})) whole
    (mount_listed (mount_from b.0) (mount_is m.0 b.0 (wanted_of_mount m.0) (is_bind m.0) refl refl b.1))
  where
    ok_mount : Mount → Read Mount
    ok_mount m = Ok m

pub mounts_again : (s : Tree-F Tree) (v : Value) → row_value Row.Mounts s ≡ Ok (Some v) → RowAgain Row.Mounts v
mounts_again s v e =
    let k = any_given Value.Mounts (listed mount_of s) v e in
    subst (RowAgain Row.Mounts) k.3 (
      seq_there _,
      any_back Value.Mounts (listed mount_of (out-Tree (Seq (map mount_tree k.0)))) k.0
          (listed_again mount_tree mount_of (λ m. Unit {0}) mount_item s k.0 k.1 (all_units k.0)) k.2,
    )
  where
    all_units : (l : List Mount) → OfAll (λ (m : Mount). Unit {0}) l
    all_units [] = tt
    all_units (x ∷ xs) = (tt, all_units xs)
