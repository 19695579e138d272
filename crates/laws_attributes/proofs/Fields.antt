-- What a table reads of entries: attributes in order, each of an entry; and how such attributes are read again.
use Rattle.std.proofs.Common.{◌≡◌, ◌∙◌, ◌⊎◌, ℕ, Bool, true, false, cond, List, [], ◌∷◌, Some, None, Ok, Err, is_some, inl, inr, refl, ap, sym, subst}
use Rattle.std.specs.Prelude.{Option, find}
use Rattle.std.specs.Option.{option_map}
use Rattle.std.specs.Str.{bytes_eq}
use Rattle.tree_base.specs.Answers.{◌>>=◌}
use Rattle.tree_base.specs.Entries as entries
use Rattle.tree_base.specs.declared.tree.Tree.{Tree, out-Tree}
use Rattle.tree_base.specs.declared.tree.Tree.TheOpen.{Tree-F}
use Rattle.tree_base.specs.declared.tree.Tree.TheVariants.{Null, outs-Null}
use Rattle.attribute_types.specs.Answers.{refused}
use Rattle.attribute_types.specs.Tables.{Lines, line_of}
use Rattle.attribute_types.specs.Values.{value_at}
use Rattle.attribute_types.specs.declared.attribute.Attribute.{Attribute}
use Rattle.attribute_types.specs.declared.attribute.Value.{Value}
use Rattle.attribute_types.specs.declared.form.Plain.{Plain}
use Rattle.attribute_types.specs.declared.refusal.Fault.{Fault}
use Rattle.attribute_scalars.specs.Scalars.{accepted, has_no_colon, if_passes, int_of, is_word_of, text_of, written}
use Rattle.attribute_scalars.specs.Walks.{Entries, Read, each_entry, in_byte_order, is_in, is_null, with_wanting}
use Rattle.short_forms.specs.PortLaws.{target_in}
use Rattle.attribute_values.specs.Fields.{field_by, field_of, fields_of, named, unless_null}
use Rattle.attribute_values.specs.Forms.{if_right, kept, plain_value, source_among}
use Rattle.attribute_values.proofs.Nulls.{not_null}
use Rattle.attribute_paths.proofs.Trees.{OfAll}
use Rattle.laws_attributes.proofs.Order.{InOrder, all_sorted, all_weaker, sorted_in_order}
use Rattle.laws_attributes.proofs.Lookups.{Apart, same_text, sorted_apart, sorted_value}
use Rattle.laws_attributes.proofs.Gifts.{From, each_from, gave, gave_in_order, key_of, looked, looked_up, name_of, reads, shown_by, shown_given, shown_in_order, shown_value}
use Rattle.laws_attributes.proofs.PlainForms.{bound_given}
use Rattle.laws_attributes.proofs.Wanting.{all_wanting, apart_wanting, none_wanting}

-- what stands at a tree, where the table has a form
abbrev pub one_by : Option Plain → Bool → Entries → Tree → Read (Option Value)
one_by None wanted beside tree = refused Fault.UnknownAttribute
one_by (Some plain) wanted beside tree = unless_null wanted (plain_value plain beside tree) (out-Tree tree)

abbrev pub field_one : Lines Plain → List (List ℕ) → Entries → List ℕ → Tree → Read (Option Value)
field_one lines wanted beside name tree = one_by (line_of lines name) (is_in wanted name) beside tree

pub unless_given : (wanted : Bool) (read : Tree-F Tree → Read (Option Value)) (s : Tree-F Tree) (v : Value) → unless_null wanted read s ≡ Ok (Some v)
    → (is_null s ≡ false) × (read s ≡ Ok (Some v))
unless_given true read Tree-F.Null v e = absurd (cc e)
unless_given false read Tree-F.Null v e = absurd (cc e)
unless_given wanted read (Tree-F.Scalar text) v e = (refl, e)
unless_given wanted read (Tree-F.Map entries) v e = (refl, e)
unless_given wanted read (Tree-F.Seq items) v e = (refl, e)
unless_given wanted read Tree-F.Reset v e = (refl, e)
unless_given wanted read (Tree-F.Override inner) v e = (refl, e)

-- what is wanted is there
pub unless_wanted : (read : Tree-F Tree → Read (Option Value)) (s : Tree-F Tree) (found : Option Value) → unless_null true read s ≡ Ok found → read s ≡ Ok found
unless_wanted read Tree-F.Null found e = absurd (cc e)
unless_wanted read (Tree-F.Scalar text) found e = e
unless_wanted read (Tree-F.Map entries) found e = e
unless_wanted read (Tree-F.Seq items) found e = e
unless_wanted read Tree-F.Reset found e = e
unless_wanted read (Tree-F.Override inner) found e = e

-- null is no attribute
pub null_apart : (tree : Tree) → tree ≡ Null → is_null (out-Tree tree) ≡ false → ⊥
null_apart tree is there = let bad : true ≡ false = sym (ap (λ t. is_null (out-Tree t)) is ∙ ap is_null outs-Null) ∙ there in cc bad

-- the value of an attribute among some, with what holds of each
pub value_holds : (Q : Attribute → Type 0) (attributes : List Attribute) (k : List ℕ) (v : Value) → OfAll Q attributes → value_at attributes k ≡ Some v
    → Q (record { name = k; value = v })
value_holds Q [] k v h e = absurd (cc e)
value_holds Q (a ∷ others) k v h e = at (bytes_eq a.name k) refl (value_holds Q others k v h.1) e
  where
    at : (b : Bool) → bytes_eq a.name k ≡ b → (value_at others k ≡ Some v → Q (record { name = k; value = v }))
        → option_map (λ (a : Attribute). a.value) (cond b (Some a) (find (λ (a : Attribute). bytes_eq a.name k) others)) ≡ Some v → Q (record { name = k; value = v })
    at true same more f =
        let text : a.name ≡ k = same_text a.name k same in
        let is : a.value ≡ v = cc f in
        let whole : a ≡ record { name = k; value = v } = (λ i. record { name = text i; value = is i }) in
        subst Q whole h.0
    at false differs more f = more f

-- attributes that are there are shown
pub shown_some : (show : Attribute → Tree) (attributes : List Attribute) (k : List ℕ) → is_some (value_at attributes k) ≡ true
    → is_some (entries.value_at (shown_by show attributes) k) ≡ true
shown_some show attributes k some = at (value_at attributes k) refl some
  where
    at : (o : Option Value) → value_at attributes k ≡ o → is_some o ≡ true → is_some (entries.value_at (shown_by show attributes) k) ≡ true
    at None e some = absurd (cc some)
    at (Some v) e some = ap is_some (shown_value show attributes k v e)

-- the forms that give a value of each tree that isn't null
abbrev pub is_full : Plain → Bool
is_full Plain.Text = true
is_full Plain.Int = true
is_full (Plain.Word set) = true
is_full Plain.PortTarget = true
is_full Plain.Target = true
is_full Plain.Source = true
is_full plain = false

kept_full : {X : Type 0} (make : X → Value) (r : Read X) (found : Option Value) → kept make r ≡ Ok found → is_some found ≡ true
kept_full make (Err refusal) found e = absurd (cc e)
kept_full make (Ok x) found e = let same : Some (make x) ≡ found = cc e in ap is_some (sym same)

right_full : (b : Bool) (v : Value) (found : Option Value) → if_right b (Some v) ≡ Ok found → is_some found ≡ true
right_full true v found e = let same : Some v ≡ found = cc e in ap is_some (sym same)
right_full false v found e = absurd (cc e)

pub full_value : (plain : Plain) → is_full plain ≡ true → (beside : Entries) (tree : Tree) (s : Tree-F Tree) (found : Option Value)
    → plain_value plain beside tree s ≡ Ok found → is_some found ≡ true
full_value Plain.Text o beside tree s found e = kept_full Value.Text (text_of s) found e
full_value Plain.Int o beside tree s found e = kept_full Value.Int (written int_of s) found e
full_value (Plain.Word set) o beside tree s found e = kept_full Value.Text (accepted (if_passes (is_word_of set)) s) found e
full_value Plain.PortTarget o beside tree s found e = kept_full Value.Port (accepted target_in s) found e
full_value Plain.Target o beside tree s found e = kept_full Value.Text (accepted (if_passes has_no_colon) s) found e
full_value Plain.Source o beside tree s found e =
    let b = bound_given (text_of s) (source_among beside) found e in right_full _ (Value.Text b.0) found b.2
full_value Plain.Bool o beside tree s found e = absurd (cc o)
full_value Plain.Flag o beside tree s found e = absurd (cc o)
full_value Plain.Num o beside tree s found e = absurd (cc o)
full_value Plain.List o beside tree s found e = absurd (cc o)
full_value (Plain.Items form) o beside tree s found e = absurd (cc o)
full_value Plain.Pairs o beside tree s found e = absurd (cc o)
full_value Plain.Labels o beside tree s found e = absurd (cc o)
full_value Plain.Argv o beside tree s found e = absurd (cc o)
full_value Plain.Duration o beside tree s found e = absurd (cc o)
full_value Plain.Size o beside tree s found e = absurd (cc o)
full_value Plain.Decimal o beside tree s found e = absurd (cc o)
full_value Plain.Kept o beside tree s found e = absurd (cc o)
full_value Plain.Scale o beside tree s found e = absurd (cc o)
full_value Plain.Deploy o beside tree s found e = absurd (cc o)
full_value Plain.NetworkMode o beside tree s found e = absurd (cc o)
full_value Plain.External o beside tree s found e = absurd (cc o)
full_value Plain.Test o beside tree s found e = absurd (cc o)
full_value Plain.Published o beside tree s found e = absurd (cc o)
full_value Plain.Bind o beside tree s found e = absurd (cc o)
full_value Plain.NoOptions o beside tree s found e = absurd (cc o)
full_value Plain.Dropped o beside tree s found e = absurd (cc o)

module _ (lines : Lines Plain) (wanted : List (List ℕ)) (es : Entries) where
  abbrev one : List ℕ → Tree → Read (Option Value)
  one = field_one lines wanted es

  field_is : (name : List ℕ) (tree : Tree) → field_of lines wanted es name tree ≡ reads one name tree
  field_is name tree = at (line_of lines name)
    where
      at : (o : Option Plain) → field_by o (is_in wanted name) es name tree ≡ (one_by o (is_in wanted name) es tree >>= λ value. Ok (named name value))
      at None = refl
      at (Some plain) = refl

  pub fields_are : fields_of lines wanted es ≡ each_entry (reads one) (in_byte_order (with_wanting wanted es))
  fields_are = (λ i. each_entry (λ name tree. field_is name tree i) (in_byte_order (with_wanting wanted es)))

  -- an attribute that was read: of an entry, by its form
  abbrev pub Came : (List ℕ × Tree → Type 0) → Attribute → Type 0
  Came P attribute =
      (plain : Plain) × (line_of lines attribute.name ≡ Some plain) × (tree : Tree) × P (attribute.name, tree)
      × (is_null (out-Tree tree) ≡ false) × (plain_value plain es tree (out-Tree tree) ≡ Ok (Some attribute.value))

  -- an attribute that is read again of what is shown of it
  abbrev pub Reads : (Attribute → Tree) → Attribute → Type 0
  Reads show attribute =
      (plain : Plain) × (line_of lines attribute.name ≡ Some plain) × (is_null (out-Tree (show attribute)) ≡ false)
      × (plain_value plain es (show attribute) (out-Tree (show attribute)) ≡ Ok (Some attribute.value))

  by_form : (tree : Tree) (v : Value) (o : Option Plain) (w : Bool) → one_by o w es tree ≡ Ok (Some v)
      → (plain : Plain) × (o ≡ Some plain) × (is_null (out-Tree tree) ≡ false) × (plain_value plain es tree (out-Tree tree) ≡ Ok (Some v))
  by_form tree v None w e = absurd (cc e)
  by_form tree v (Some plain) w e = let u = unless_given w (plain_value plain es tree) (out-Tree tree) v e in (plain, refl, u.0, u.1)

  module _ (attributes : List Attribute) (e : fields_of lines wanted es ≡ Ok attributes) where
    pub walked : each_entry (reads one) (in_byte_order (with_wanting wanted es)) ≡ Ok attributes
    walked = sym fields_are ∙ e

    pub fields_in_order : InOrder name_of attributes
    fields_in_order =
        gave_in_order one (in_byte_order (with_wanting wanted es)) attributes (sorted_in_order key_of (with_wanting wanted es))
        (gave one (in_byte_order (with_wanting wanted es)) attributes walked)

    pub fields_came : (P : List ℕ × Tree → Type 0) → OfAll P es → OfAll (Came P) attributes
    fields_came P h =
        all_weaker (From one Q) (Came P) back attributes
        (each_from one Q (in_byte_order (with_wanting wanted es)) attributes
        (all_sorted key_of Q (with_wanting wanted es) (all_wanting Q wanted es (all_weaker P Q (λ e p. inl p) es h) (nulls wanted)))
        (gave one (in_byte_order (with_wanting wanted es)) attributes walked))
      where
        Q : List ℕ × Tree → Type 0
        Q entry = P entry ⊎ (entry.1 ≡ Null)

        nulls : (names : List (List ℕ)) → OfAll (λ name. Q (name, Null)) names
        nulls [] = tt
        nulls (name ∷ names) = (inr refl, nulls names)

        kept_of : (name : List ℕ) (tree : Tree) → Q (name, tree) → is_null (out-Tree tree) ≡ false → P (name, tree)
        kept_of name tree (inl p) there = p
        kept_of name tree (inr is) there = absurd (null_apart tree is there)

        back : (a : Attribute) → From one Q a → Came P a
        back a f =
            let b = by_form f.0 a.value (line_of lines a.name) (is_in wanted a.name) f.2 in
            (b.0, b.1, f.0, kept_of a.name f.0 f.1 b.2, b.2, b.3)

    pub fields_looked : Apart es → (k : List ℕ) → looked one k (entries.value_at (with_wanting wanted es) k) ≡ Ok (value_at attributes k)
    fields_looked apart k =
        let all = with_wanting wanted es in
        ap (looked one k) (sym (sorted_value all k))
        ∙ looked_up one (in_byte_order all) attributes (sorted_apart all (apart_wanting wanted es apart)) (gave one (in_byte_order all) attributes walked) k

    -- what is wanted is among the attributes
    pub fields_full : Apart es → (k : List ℕ) (plain : Plain) → line_of lines k ≡ Some plain → is_full plain ≡ true → is_in wanted k ≡ true
        → is_some (entries.value_at (with_wanting wanted es) k) ≡ true → is_some (value_at attributes k) ≡ true
    fields_full apart k plain line full among there = at (entries.value_at (with_wanting wanted es) k) there (fields_looked apart k)
      where
        at : (o : Option Tree) → is_some o ≡ true → looked one k o ≡ Ok (value_at attributes k) → is_some (value_at attributes k) ≡ true
        at None some f = absurd (cc some)
        at (Some tree) some f =
            let so : one_by (Some plain) true es tree ≡ Ok (value_at attributes k) = (λ i. one_by (sym line i) (sym among i) es tree) ∙ f in
            full_value plain full es tree (out-Tree tree) (value_at attributes k) (unless_wanted (plain_value plain es tree) (out-Tree tree) (value_at attributes k) so)

-- attributes in order that are each read again, where nothing is wanting
pub fields_back : (lines : Lines Plain) (wanted : List (List ℕ)) (show : Attribute → Tree) (attributes : List Attribute) → InOrder name_of attributes
    → OfAll (λ name. is_some (value_at attributes name) ≡ true) wanted → OfAll (Reads lines wanted (shown_by show attributes) show) attributes
    → fields_of lines wanted (shown_by show attributes) ≡ Ok attributes
fields_back lines wanted show attributes order there each =
    let es = shown_by show attributes in
    fields_are lines wanted es
    ∙ ap (λ l. each_entry (reads (field_one lines wanted es)) (in_byte_order l))
    (none_wanting wanted es (all_weaker (λ name. is_some (value_at attributes name) ≡ true) (λ name. is_some (entries.value_at es name) ≡ true) (shown_some show attributes) wanted there))
    ∙ ap (each_entry (reads (field_one lines wanted es))) (shown_in_order show attributes order)
    ∙ shown_given (field_one lines wanted es) show attributes
    (all_weaker (Reads lines wanted es show) (λ a. field_one lines wanted es a.name (show a) ≡ Ok (Some a.value))
    (λ a r.
    ap (λ o. one_by o (is_in wanted a.name) es (show a)) r.1
    ∙ not_null (is_in wanted a.name) (plain_value r.0 es (show a)) (out-Tree (show a)) r.2
    ∙ r.3) attributes each)
