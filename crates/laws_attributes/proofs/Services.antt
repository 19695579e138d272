-- The attributes of a service are read again of what is shown of them, where its rows are.
use Rattle.std.proofs.Common.{◌≡◌, ◌∙◌, ◌⊎◌, ℕ, Bool, true, false, cond, not, List, [], ◌∷◌, codes, Some, None, Ok, Err, is_some, inl, inr, refl, ap, sym, subst}
use Rattle.std.specs.Prelude.{◌&&◌, Option, nat_le}
use Rattle.std.specs.List.{list_all}
use Rattle.std.specs.Option.{option_and_then, option_or}
use Rattle.tree_base.specs.Answers.{◌>>=◌}
use Rattle.tree_base.specs.Entries as entries
use Rattle.tree_base.specs.declared.tree.Tree.{Tree, out-Tree}
use Rattle.tree_base.specs.declared.tree.Tree.TheOpen.{Tree-F}
use Rattle.tree_base.specs.declared.tree.Tree.TheVariants.{Null, outs-Null}
use Rattle.attribute_types.specs.Answers.{refused}
use Rattle.attribute_types.specs.Tables.{form_of, host_lines, joining_lines, line_of, process_lines, resource_lines, running_lines}
use Rattle.attribute_types.specs.Values.{value_at}
use Rattle.attribute_types.specs.declared.attribute.Attribute.{Attribute}
use Rattle.attribute_types.specs.declared.attribute.Value.{Value}
use Rattle.attribute_types.specs.declared.form.Form.{Form}
use Rattle.attribute_types.specs.declared.form.Plain.{Plain}
use Rattle.attribute_types.specs.declared.form.Row.{Row}
use Rattle.attribute_types.specs.declared.form.WordSet.TheVariants as words
use Rattle.attribute_types.specs.declared.refusal.Fault.{Fault}
use Rattle.attribute_scalars.specs.Scalars.{accepted, if_passes, is_word_of, num_of, written}
use Rattle.attribute_scalars.specs.Walks.{Entries, Read, each_entry, in_byte_order, is_given, is_in, is_null, is_there, own_entries, with_wanting}
use Rattle.attribute_scalars.specs.Lists.{mapping_in, ordered}
use Rattle.attribute_values.specs.Fields.{named, unless_null}
use Rattle.attribute_values.specs.Forms.{count_of, deployed, entries_of, has_networks, if_right, is_empty, is_filled, kept, plain_value, replicas_among, same_count, scale_among, text_under}
use Rattle.attribute_values.proofs.Nulls.{not_null, null_so}
use Rattle.attribute_rows.specs.Attributes.{attribute_by, attribute_under, attributes_from, form_value, wanted_of_service}
use Rattle.attribute_rows.specs.Rows.{row_value}
use Rattle.attribute_paths.proofs.Trees.{OfAll}
use Rattle.laws_attributes.proofs.Order.{all_weaker}
use Rattle.laws_attributes.proofs.Lookups.{Apart}
use Rattle.laws_attributes.proofs.Deployed.{count_in, count_ordered, deployed_given}
use Rattle.laws_attributes.proofs.Fields.{full_value, shown_some, unless_given, unless_wanted, value_holds}
use Rattle.laws_attributes.proofs.Gifts.{From, looked, reads, shown_by, shown_given, shown_in_order, shown_none, shown_value}
use Rattle.laws_attributes.proofs.OrdinaryForms.{is_ordinary, ordinary_back}
use Rattle.laws_attributes.proofs.PlainForms.{accepted_given, accepted_scalar, bound_given, kept_given, scalar_there, written_given, written_scalar}
use Rattle.laws_attributes.proofs.ScalarForms.{num_back}
use Rattle.laws_attributes.proofs.Shown.{plain_tree, whole}
use Rattle.laws_attributes.proofs.Tables.{line_holds}
use Rattle.laws_attributes.proofs.Walked.{PassesNull, walk_came, walk_in_order, walk_looked}
use Rattle.laws_attributes.proofs.Wanting.{IsOwn, Kept, kept_wanting, none_wanting, own_stay, wanted_there}

-- what a tree that isn't null gives by a form
abbrev pub given_by : Form → Entries → Tree → Tree-F Tree → Read (Option Value)
given_by (Form.Plain plain) beside tree s = plain_value plain beside tree s
given_by (Form.Own row) beside tree s = row_value row s
given_by Form.Consumed beside tree s = Ok None

-- what stands at a tree, where the tables have a form
abbrev pub form_one : Option Form → Bool → Entries → Tree → Read (Option Value)
form_one None wanted beside tree = refused Fault.UnknownAttribute
form_one (Some form) wanted beside tree = form_value form wanted beside tree

-- a value of a form is one of a tree that isn't null
pub form_given : (form : Form) (wanted : Bool) (beside : Entries) (tree : Tree) (v : Value) → form_value form wanted beside tree ≡ Ok (Some v)
    → (is_null (out-Tree tree) ≡ false) × (given_by form beside tree (out-Tree tree) ≡ Ok (Some v))
form_given (Form.Plain plain) wanted beside tree v e = unless_given wanted (plain_value plain beside tree) (out-Tree tree) v e
form_given (Form.Own row) wanted beside tree v e = unless_given wanted (row_value row) (out-Tree tree) v e
form_given Form.Consumed wanted beside tree v e = absurd (cc e)

pub form_back : (form : Form) (wanted : Bool) (beside : Entries) (tree : Tree) (v : Value) → is_null (out-Tree tree) ≡ false → given_by form beside tree (out-Tree tree) ≡ Ok (Some v)
    → form_value form wanted beside tree ≡ Ok (Some v)
form_back (Form.Plain plain) wanted beside tree v there e = not_null wanted (plain_value plain beside tree) (out-Tree tree) there ∙ e
form_back (Form.Own row) wanted beside tree v there e = not_null wanted (row_value row) (out-Tree tree) there ∙ e
form_back Form.Consumed wanted beside tree v there e = absurd (cc e)

-- the forms that a service's tables have
abbrev pub is_of_service : Form → Bool
is_of_service (Form.Plain Plain.Scale) = true
is_of_service (Form.Plain Plain.NetworkMode) = true
is_of_service (Form.Plain plain) = is_ordinary plain
is_of_service (Form.Own row) = true
is_of_service Form.Consumed = true

process_forms : list_all (λ line. is_of_service line.1) process_lines ≡ true
unfolding process_lines
process_forms = refl

host_forms : list_all (λ line. is_of_service line.1) host_lines ≡ true
unfolding host_lines
host_forms = refl

resource_forms : list_all (λ line. is_of_service line.1) resource_lines ≡ true
unfolding resource_lines
resource_forms = refl

joining_forms : list_all (λ line. is_of_service line.1) joining_lines ≡ true
unfolding joining_lines
joining_forms = refl

running_forms : list_all (λ line. is_of_service line.1) running_lines ≡ true
unfolding running_lines
running_forms = refl

-- one of two that are tried one after the other
pub or_either : (o p : Option Form) (form : Form) → option_or o p ≡ Some form → (o ≡ Some form) ⊎ (p ≡ Some form)
or_either None p form e = inr e
or_either (Some other) p form e = inl e

pub of_service : (name : List ℕ) (form : Form) → form_of name ≡ Some form → is_of_service form ≡ true
of_service name form e =
    elim (or_either (line_of process_lines name) _ form e) [
      | inl a ↦ line_holds is_of_service process_lines process_forms name form a
      | inr b ↦ elim (or_either (line_of host_lines name) _ form b) [
        | inl a ↦ line_holds is_of_service host_lines host_forms name form a
        | inr b ↦ elim (or_either (line_of resource_lines name) _ form b) [
          | inl a ↦ line_holds is_of_service resource_lines resource_forms name form a
          | inr b ↦ elim (or_either (line_of joining_lines name) _ form b) [
            | inl a ↦ line_holds is_of_service joining_lines joining_forms name form a
            | inr b ↦ line_holds is_of_service running_lines running_forms name form b
          ]
        ]
      ]
    ]

build_form : form_of (codes "build") ≡ Some (Form.Plain Plain.Kept)
unfolding process_lines host_lines resource_lines joining_lines running_lines
build_form = refl

image_form : form_of (codes "image") ≡ Some (Form.Plain Plain.Text)
unfolding process_lines host_lines resource_lines joining_lines running_lines
image_form = refl

deploy_form : form_of (codes "deploy") ≡ Some (Form.Plain Plain.Deploy)
unfolding process_lines host_lines resource_lines joining_lines running_lines
deploy_form = refl

networks_form : form_of (codes "networks") ≡ Some (Form.Own Row.Networks)
unfolding process_lines host_lines resource_lines joining_lines running_lines
networks_form = refl

-- networks that are there are at least one
networks_filled : (s : Tree-F Tree) (v : Value) → row_value Row.Networks s ≡ Ok (Some v) → is_empty s ≡ false
networks_filled (Tree-F.Map []) v e = absurd (cc e)
networks_filled (Tree-F.Map (x ∷ xs)) v e = refl
networks_filled (Tree-F.Seq []) v e = refl_of e
  where
    refl_of : row_value Row.Networks (Tree-F.Seq []) ≡ Ok (Some v) → is_empty (Tree-F.Seq []) ≡ false
    refl_of f = absurd (cc f)
networks_filled (Tree-F.Seq (x ∷ xs)) v e = refl
networks_filled Tree-F.Null v e = refl
networks_filled (Tree-F.Scalar text) v e = refl
networks_filled Tree-F.Reset v e = refl
networks_filled (Tree-F.Override inner) v e = refl

-- rows that are read again, where they pass a test
abbrev pub RowsBack : (Value → Type 0) → Type 0
RowsBack P =
    (row : Row) (s : Tree-F Tree) (v : Value) → row_value row s ≡ Ok (Some v) → P v
    → (is_null (out-Tree (plain_tree v)) ≡ false) × (row_value row (out-Tree (plain_tree v)) ≡ Ok (Some v))

kept_some : {X : Type 0} (make : X → Value) (r : Read X) → kept make r ≡ Ok None → ⊥
kept_some make (Err refusal) e = cc e
kept_some make (Ok x) e = cc e

-- what stands under a name of a service
abbrev pub one_of : List (List ℕ) → Entries → List ℕ → Tree → Read (Option Value)
one_of names beside name tree = form_one (form_of name) (is_in names name) beside tree

one_is : (names : List (List ℕ)) (beside : Entries) (name : List ℕ) (tree : Tree) → attribute_under names beside name tree ≡ reads (one_of names beside) name tree
one_is names beside name tree = at (form_of name)
  where
    at : (o : Option Form) → attribute_by o (is_in names name) beside name tree ≡ (form_one o (is_in names name) beside tree >>= λ value. Ok (named name value))
    at None = refl
    at (Some form) = refl

-- a walk over entries, as one that gives a value or none of each
pub walks : (names : List (List ℕ)) (beside l : Entries) → each_entry (attribute_under names beside) l ≡ each_entry (reads (one_of names beside)) l
walks names beside l = (λ i. each_entry (λ name tree. one_is names beside name tree i) l)

-- the form by which a value was given
pub by_form : (es : Entries) (o : Option Form) (w : Bool) (tree : Tree) (v : Value) → form_one o w es tree ≡ Ok (Some v)
    → (form : Form) × (o ≡ Some form) × (is_null (out-Tree tree) ≡ false) × (given_by form es tree (out-Tree tree) ≡ Ok (Some v))
by_form es None w tree v f = absurd (cc f)
by_form es (Some form) w tree v f = let g = form_given form w es tree v f in (form, refl, g.0, g.1)

module _ (P : Value → Type 0) (rows : RowsBack P) (es : Entries) (apart : Apart es) (attributes : List Attribute) (e : attributes_from es ≡ Ok attributes)
    (passing : OfAll (λ a. P a.value) attributes) where
  abbrev wanted : List (List ℕ)
  wanted = wanted_of_service es

  abbrev shown : Entries
  shown = shown_by whole attributes

  abbrev one : List ℕ → Tree → Read (Option Value)
  one = one_of wanted es

  walked : each_entry (reads one) (in_byte_order (with_wanting wanted es)) ≡ Ok attributes
  walked = sym (walks wanted es (in_byte_order (with_wanting wanted es))) ∙ e

  passes : PassesNull one
  passes name tree v f = (by_form es (form_of name) (is_in wanted name) tree v f).2

  -- what gives the attribute of a name
  looks : (k : List ℕ) → looked one k (entries.value_at (with_wanting wanted es) k) ≡ Ok (value_at attributes k)
  looks k = walk_looked one wanted es attributes walked apart k

  -- the entry of a name that has an attribute
  from_entry : (k : List ℕ) (v : Value) → value_at attributes k ≡ Some v → (tree : Tree) × (entries.value_at es k ≡ Some tree) × (one k tree ≡ Ok (Some v))
  from_entry k v is = at (entries.value_at (with_wanting wanted es) k) refl (looks k) (kept_wanting wanted es k)
    where
      at : (o : Option Tree) → entries.value_at (with_wanting wanted es) k ≡ o → looked one k o ≡ Ok (value_at attributes k) → Kept es (with_wanting wanted es) k
          → (tree : Tree) × (entries.value_at es k ≡ Some tree) × (one k tree ≡ Ok (Some v))
      at None so f h = let bad : None ≡ Some v = (let none : None ≡ value_at attributes k = cc f in none) ∙ is in absurd (cc bad)
      at (Some tree) so f (inl same) = (tree, sym same ∙ so, f ∙ (λ i. Ok (is i)))
      at (Some tree) so f (inr null) =
          let tree_null : tree ≡ Null = let both : Some tree ≡ Some Null = sym so ∙ null.1 in cc both in
          let there : is_null (out-Tree tree) ≡ false = passes k tree v (f ∙ (λ i. Ok (is i))) in
          let bad : true ≡ false = sym (ap (λ t. is_null (out-Tree t)) tree_null ∙ ap is_null outs-Null) ∙ there in absurd (cc bad)

  -- an entry that has no attribute
  no_entry : (k : List ℕ) (tree : Tree) → entries.value_at es k ≡ Some tree → one k tree ≡ Ok (value_at attributes k)
  no_entry k tree is = at (kept_wanting wanted es k) (looks k)
    where
      at : Kept es (with_wanting wanted es) k → looked one k (entries.value_at (with_wanting wanted es) k) ≡ Ok (value_at attributes k) → one k tree ≡ Ok (value_at attributes k)
      at (inl same) f = ap (looked one k) (sym (same ∙ is)) ∙ f
      at (inr null) f = let bad : None ≡ Some tree = sym null.0 ∙ is in absurd (cc bad)

  -- where nothing stands, no attribute is, unless it is wanted
  none_there : (k : List ℕ) → entries.value_at es k ≡ None → (v : Value) → value_at attributes k ≡ Some v → ⊥
  none_there k none v is = let f = from_entry k v is in let bad : None ≡ Some f.0 = sym none ∙ f.1 in cc bad

  no_networks : has_networks es ≡ false → has_networks shown ≡ false
  no_networks none = at (value_at attributes (codes "networks")) refl
    where
      at : (o : Option Value) → value_at attributes (codes "networks") ≡ o → has_networks shown ≡ false
      at None is = ap is_filled (shown_none whole attributes (codes "networks") is)
      at (Some v) is =
          let f = from_entry (codes "networks") v is in
          let so : form_one (Some (Form.Own Row.Networks)) (is_in wanted (codes "networks")) es f.0 ≡ Ok (Some v) =
          ap (λ o. form_one o (is_in wanted (codes "networks")) es f.0) (sym networks_form) ∙ f.2 in
          let g = form_given (Form.Own Row.Networks) (is_in wanted (codes "networks")) es f.0 v so in
          let filled : is_filled (Some f.0) ≡ true = (λ i. not (g.0 i) && not (networks_filled (out-Tree f.0) v g.1 i)) in
          let bad : true ≡ false = sym filled ∙ sym (ap is_filled f.1) ∙ none in absurd (cc bad)

  counts_same : replicas_among shown ≡ replicas_among es
  counts_same = at (value_at attributes (codes "deploy")) refl (entries.value_at es (codes "deploy")) refl
    where
      by_deploy : (tree : Tree) (found : Option Value) → one (codes "deploy") tree ≡ Ok found → form_value (Form.Plain Plain.Deploy) (is_in wanted (codes "deploy")) es tree ≡ Ok found
      by_deploy tree found f = ap (λ o. form_one o (is_in wanted (codes "deploy")) es tree) (sym deploy_form) ∙ f

      none_of : (w : Bool) (tree : Tree) (s : Tree-F Tree) → unless_null w (λ z. kept Value.Kept (deployed tree z)) s ≡ Ok None → is_null s ≡ true
      none_of w tree Tree-F.Null f = refl
      none_of w tree (Tree-F.Scalar text) f = absurd (kept_some Value.Kept (deployed tree (Tree-F.Scalar text)) f)
      none_of w tree (Tree-F.Map entries) f = absurd (kept_some Value.Kept (deployed tree (Tree-F.Map entries)) f)
      none_of w tree (Tree-F.Seq items) f = absurd (kept_some Value.Kept (deployed tree (Tree-F.Seq items)) f)
      none_of w tree Tree-F.Reset f = absurd (kept_some Value.Kept (deployed tree Tree-F.Reset) f)
      none_of w tree (Tree-F.Override inner) f = absurd (kept_some Value.Kept (deployed tree (Tree-F.Override inner)) f)

      null_count : (tree : Tree) → is_null (out-Tree tree) ≡ true → count_in tree ≡ None
      null_count tree h = ap (λ s. option_and_then count_of (text_under (entries_of s) (codes "replicas"))) (null_so (out-Tree tree) h)

      at : (o : Option Value) → value_at attributes (codes "deploy") ≡ o → (p : Option Tree) → entries.value_at es (codes "deploy") ≡ p → replicas_among shown ≡ replicas_among es
      at None is None there = ap (option_and_then count_in) (shown_none whole attributes (codes "deploy") is) ∙ sym (ap (option_and_then count_in) there)
      at None is (Some tree) there =
          let f = by_deploy tree None (no_entry (codes "deploy") tree there ∙ (λ i. Ok (is i))) in
          ap (option_and_then count_in) (shown_none whole attributes (codes "deploy") is)
          ∙ sym (null_count tree (none_of (is_in wanted (codes "deploy")) tree (out-Tree tree) f))
          ∙ sym (ap (option_and_then count_in) there)
      at (Some v) is None there = absurd (none_there (codes "deploy") there v is)
      at (Some v) is (Some tree) there =
          let f = by_deploy tree (Some v) (no_entry (codes "deploy") tree there ∙ (λ i. Ok (is i))) in
          let g = form_given (Form.Plain Plain.Deploy) (is_in wanted (codes "deploy")) es tree v f in
          let k = kept_given Value.Kept (deployed tree (out-Tree tree)) v g.1 in
          let d = deployed_given tree (out-Tree tree) k.0 k.1 in
          let value : Value.Kept (ordered tree) ≡ v = ap (λ t. Value.Kept t) d.2 ∙ k.2 in
          ap (option_and_then count_in) (shown_value whole attributes (codes "deploy") v is)
          ∙ ap (λ w. count_in (plain_tree w)) (sym value)
          ∙ count_ordered tree
          ∙ sym (ap (option_and_then count_in) there)

  -- an attribute that is read again
  abbrev Again : Attribute → Type 0
  Again a = (form : Form) × (form_of a.name ≡ Some form) × (is_null (out-Tree (whole a)) ≡ false) × (given_by form shown (whole a) (out-Tree (whole a)) ≡ Ok (Some a.value))

  mode_again : (s : Tree-F Tree) (v : Value)
      → (accepted (if_passes (is_word_of words.NetworkModes)) s >>= λ mode. if_right (not (has_networks es)) (Some (Value.Text mode))) ≡ Ok (Some v)
      → (is_null (out-Tree (plain_tree v)) ≡ false) × (plain_value Plain.NetworkMode shown (plain_tree v) (out-Tree (plain_tree v)) ≡ Ok (Some v))
  mode_again s v f =
      let b = bound_given (accepted (if_passes (is_word_of words.NetworkModes)) s) (λ mode. if_right (not (has_networks es)) (Some (Value.Text mode))) (Some v) f in
      let r = right (has_networks es) (Some (Value.Text b.0)) (Some v) b.2 in
      let value : Value.Text b.0 ≡ v = cc r.1 in
      let t = accepted_given (if_passes (is_word_of words.NetworkModes)) s b.0 b.1 in
      subst (λ w. (is_null (out-Tree (plain_tree w)) ≡ false) × (plain_value Plain.NetworkMode shown (plain_tree w) (out-Tree (plain_tree w)) ≡ Ok (Some w))) value (
        scalar_there b.0,
        ap (λ z. z >>= λ mode. if_right (not (has_networks shown)) (Some (Value.Text mode)))
            (accepted_scalar (if_passes (is_word_of words.NetworkModes)) b.0 b.0 (passed (is_word_of words.NetworkModes) t.0 b.0 t.1))
            ∙ ap (λ n. if_right (not n) (Some (Value.Text b.0))) (no_networks r.0),
      )
    where
      right : {X : Type 0} (n : Bool) (x y : X) → if_right (not n) x ≡ Ok y → (n ≡ false) × (x ≡ y)
      right true x y f = absurd (cc f)
      right false x y f = (refl, cc f)

      passed : (test : List ℕ → Bool) (text found : List ℕ) → if_passes test text ≡ Some found → if_passes test found ≡ Some found
      passed test text found f = by (test text) f
        where
          by : (b : Bool) → cond b (Some text) None ≡ Some found → if_passes test found ≡ Some found
          by false g = absurd (cc g)
          by true g = let same : text ≡ found = cc g in subst (λ (l : List ℕ). if_passes test l ≡ Some found) same f

  scale_again : (s : Tree-F Tree) (v : Value) → (written num_of s >>= scale_among es) ≡ Ok (Some v)
      → (is_null (out-Tree (plain_tree v)) ≡ false) × (plain_value Plain.Scale shown (plain_tree v) (out-Tree (plain_tree v)) ≡ Ok (Some v))
  scale_again s v f =
      let b = bound_given (written num_of s) (scale_among es) (Some v) f in
      let value : Value.Num b.0 ≡ v = right (nat_le b.0 100 && same_count b.0 (replicas_among es)) (Value.Num b.0) v b.2 in
      let t = written_given num_of s b.0 b.1 in
      let again : (written num_of (out-Tree (plain_tree (Value.Num b.0))) >>= scale_among shown) ≡ Ok (Some v) =
      ap (λ z. z >>= scale_among shown) (written_scalar num_of _ b.0 (num_back t.0 b.0 t.1))
      ∙ ap (λ c. if_right (nat_le b.0 100 && same_count b.0 c) (Some (Value.Num b.0))) counts_same ∙ b.2 in (
        subst (λ w. is_null (out-Tree (plain_tree w)) ≡ false) value (scalar_there _),
        subst (λ w. (written num_of (out-Tree (plain_tree w)) >>= scale_among shown) ≡ Ok (Some v)) value again,
      )
    where
      right : (b : Bool) (x y : Value) → if_right b (Some x) ≡ Ok (Some y) → x ≡ y
      right true x y f = cc f
      right false x y f = absurd (cc f)

  plain_again : (a : Attribute) (plain : Plain) → form_of a.name ≡ Some (Form.Plain plain) → is_of_service (Form.Plain plain) ≡ true → (tree : Tree)
      → plain_value plain es tree (out-Tree tree) ≡ Ok (Some a.value) → Again a
  plain_again a Plain.Scale is s tree f = let r = scale_again (out-Tree tree) a.value f in (Form.Plain Plain.Scale, is, r.0, r.1)
  plain_again a Plain.NetworkMode is s tree f = let r = mode_again (out-Tree tree) a.value f in (Form.Plain Plain.NetworkMode, is, r.0, r.1)
  plain_again a plain is s tree f = let back = ordinary_back plain s es tree a.value f in (Form.Plain plain, is, back.0, back.1 shown)

  form_again : (a : Attribute) (form : Form) → form_of a.name ≡ Some form → P a.value → (tree : Tree) → given_by form es tree (out-Tree tree) ≡ Ok (Some a.value) → Again a
  form_again a (Form.Plain plain) is p tree f = plain_again a plain is (of_service a.name (Form.Plain plain) is) tree f
  form_again a (Form.Own row) is p tree f = let r = rows row (out-Tree tree) a.value f p in (Form.Own row, is, r.0, r.1)
  form_again a Form.Consumed is p tree f = absurd (cc f)

  two_of : (l : List Attribute) → OfAll (λ a. P a.value) l → OfAll (From one IsOwn) l → OfAll Again l
  two_of [] h g = tt
  two_of (a ∷ others) h g =
      let b = by_form es (form_of a.name) (is_in wanted a.name) g.0.0 a.value g.0.2 in
      (form_again a b.0 b.1 h.0 g.0.0 b.3, two_of others h.1 g.1)

  own_shown : (l : List Attribute) → OfAll (From one IsOwn) l → OfAll IsOwn (shown_by whole l)
  own_shown [] h = tt
  own_shown (a ∷ others) h = (h.0.1, own_shown others h.1)

  -- an image, or what builds one
  image_or_build : OfAll Again attributes → OfAll (λ name. is_some (entries.value_at shown name) ≡ true) (wanted_of_service shown)
  image_or_build again = at (is_there shown (codes "build")) refl
    where
      built : (o : Option Value) → value_at attributes (codes "build") ≡ o → (v : Value) → o ≡ Some v → is_there shown (codes "build") ≡ true
      built o is v some =
          let a = value_holds Again attributes (codes "build") v again (is ∙ some) in
          ap is_given (shown_value whole attributes (codes "build") v (is ∙ some)) ∙ ap not a.2

      no_build : is_there shown (codes "build") ≡ false → is_there es (codes "build") ≡ false
      no_build none = by (entries.value_at es (codes "build")) refl
        where
          by_kept : (tree : Tree) (found : Option Value) → one (codes "build") tree ≡ Ok found → form_value (Form.Plain Plain.Kept) (is_in wanted (codes "build")) es tree ≡ Ok found
          by_kept tree found f = ap (λ o. form_one o (is_in wanted (codes "build")) es tree) (sym build_form) ∙ f

          null_of : (w : Bool) (tree : Tree) (s : Tree-F Tree) → unless_null w (λ z. kept Value.Kept (mapping_in tree z)) s ≡ Ok None → is_null s ≡ true
          null_of w tree Tree-F.Null f = refl
          null_of w tree (Tree-F.Scalar text) f = absurd (kept_some Value.Kept (mapping_in tree (Tree-F.Scalar text)) f)
          null_of w tree (Tree-F.Map entries) f = absurd (kept_some Value.Kept (mapping_in tree (Tree-F.Map entries)) f)
          null_of w tree (Tree-F.Seq items) f = absurd (kept_some Value.Kept (mapping_in tree (Tree-F.Seq items)) f)
          null_of w tree Tree-F.Reset f = absurd (kept_some Value.Kept (mapping_in tree Tree-F.Reset) f)
          null_of w tree (Tree-F.Override inner) f = absurd (kept_some Value.Kept (mapping_in tree (Tree-F.Override inner)) f)

          value : (tree : Tree) → entries.value_at es (codes "build") ≡ Some tree → (o : Option Value) → value_at attributes (codes "build") ≡ o → not (is_null (out-Tree tree)) ≡ false
          value tree is None so =
              ap not (null_of (is_in wanted (codes "build")) tree (out-Tree tree) (by_kept tree None (no_entry (codes "build") tree is ∙ (λ i. Ok (so i)))))
          value tree is (Some v) so = let bad : true ≡ false = sym (built (Some v) so v refl) ∙ none in absurd (cc bad)

          by : (o : Option Tree) → entries.value_at es (codes "build") ≡ o → is_there es (codes "build") ≡ false
          by None is = ap is_given is
          by (Some tree) is = ap is_given is ∙ value tree is (value_at attributes (codes "build")) refl

      names : (b : Bool) → is_there es (codes "build") ≡ b → b ≡ false → wanted ≡ codes "image" ∷ []
      names b is none = ap (λ c. cond c [] (codes "image" ∷ [])) (is ∙ none)

      image : is_there es (codes "build") ≡ false → is_some (value_at attributes (codes "image")) ≡ true
      image none =
          let w = names false none refl in
          let all = subst (λ (l : List (List ℕ)). OfAll (λ name. is_some (entries.value_at (with_wanting wanted es) name) ≡ true) l) w (wanted_there wanted es) in
          by (entries.value_at (with_wanting wanted es) (codes "image")) all.0 (looks (codes "image")) (ap (λ l. is_in l (codes "image")) w)
        where
          by : (o : Option Tree) → is_some o ≡ true → looked one (codes "image") o ≡ Ok (value_at attributes (codes "image")) → is_in wanted (codes "image") ≡ true
              → is_some (value_at attributes (codes "image")) ≡ true
          by None some f among = absurd (cc some)
          by (Some tree) some f among =
              let so : unless_null true (plain_value Plain.Text es tree) (out-Tree tree) ≡ Ok (value_at attributes (codes "image")) =
              (λ i. form_one (sym image_form i) (sym among i) es tree) ∙ f in
              full_value Plain.Text refl es tree (out-Tree tree) (value_at attributes (codes "image")) (unless_wanted (plain_value Plain.Text es tree) (out-Tree tree) (value_at attributes (codes "image")) so)

      at : (b : Bool) → is_there shown (codes "build") ≡ b → OfAll (λ name. is_some (entries.value_at shown name) ≡ true) (cond b [] (codes "image" ∷ []))
      at true is = tt
      at false is = (shown_some whole attributes (codes "image") (image (no_build is)), tt)

  unit_own : OfAll IsOwn es → OfAll (From one IsOwn) attributes
  unit_own own = walk_came one wanted es attributes walked passes IsOwn own

  -- the attributes of a service are read again
  pub service_again : OfAll IsOwn es → attributes_from (own_entries (shown_by whole attributes)) ≡ Ok attributes
  service_again own =
      let came = unit_own own in
      let again = two_of attributes passing came in
      let names = wanted_of_service shown in
      ap attributes_from (own_stay shown (own_shown attributes came))
      ∙ walks names shown (in_byte_order (with_wanting names shown))
      ∙ ap (λ l. each_entry (reads (one_of names shown)) (in_byte_order l)) (none_wanting names shown (image_or_build again))
      ∙ ap (each_entry (reads (one_of names shown))) (shown_in_order whole attributes (walk_in_order one wanted es attributes walked))
      ∙ shown_given (one_of names shown) whole attributes
      (all_weaker Again (λ a. one_of names shown a.name (whole a) ≡ Ok (Some a.value))
      (λ a r. ap (λ o. form_one o (is_in names a.name) shown (whole a)) r.1 ∙ form_back r.0 (is_in names a.name) shown (whole a) a.value r.2 r.3) attributes again)

  -- where the attributes come from
  abbrev pub Given : (List ℕ × Tree → Type 0) → Attribute → Type 0
  Given R a = (form : Form) × (tree : Tree) × R (a.name, tree) × (given_by form es tree (out-Tree tree) ≡ Ok (Some a.value))

  pub service_came : (R : List ℕ × Tree → Type 0) → OfAll R es → OfAll (Given R) attributes
  service_came R h =
      all_weaker (From one R) (Given R) (λ a g. (let b = by_form es (form_of a.name) (is_in wanted a.name) g.0 a.value g.2 in (b.0, g.0, g.1, b.3))) attributes
      (walk_came one wanted es attributes walked passes R h)
