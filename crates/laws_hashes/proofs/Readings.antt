-- Attributes of one name that are read again of the same tree are the same, whatever stands beside each of them.
use Rattle.std.proofs.Common.{◌≡◌, ◌∙◌, ◌&&◌, ◌||◌, ℕ, Bool, true, false, not, List, [], ◌∷◌, Option, Some, None, Ok, Err, map, sym, ap, refl}
use Rattle.std.specs.Prelude.{nat_le}
use Rattle.std.specs.List.{list_any}
use Rattle.tree_base.specs.Answers.{◌>>=◌}
use Rattle.tree_base.specs.declared.tree.Tree.{Tree, out-Tree}
use Rattle.tree_base.specs.declared.tree.Tree.TheOpen.{Tree-F}
use Rattle.attribute_types.specs.Tables.{form_of}
use Rattle.attribute_types.specs.declared.attribute.Attribute.{Attribute}
use Rattle.attribute_types.specs.declared.attribute.Value.{Value}
use Rattle.attribute_types.specs.declared.form.Form.{Form}
use Rattle.attribute_types.specs.declared.form.Plain.{Plain}
use Rattle.attribute_types.specs.declared.form.WordSet.TheVariants as words
use Rattle.attribute_scalars.specs.Scalars.{accepted, bool_of, has_no_colon, if_passes, is_word_of, num_of, text_of, written}
use Rattle.attribute_scalars.specs.Walks.{Entries, Read, is_in}
use Rattle.attribute_values.specs.Fields.{named}
use Rattle.attribute_values.specs.Forms.{external_among, has_networks, if_right, is_bind, is_of_own, plain_value, replicas_among, same_count, scale_among, source_among}
use Rattle.attribute_rows.specs.Attributes.{attribute_by, form_value}
use Rattle.attribute_rows.specs.Rows.{row_value}
use Rattle.project_pages.specs.AttributePages.{attribute_entry}
use Rattle.project_print.specs.Values.{value_of}
use Rattle.project_print.specs.declared.node.Node.{Node}
use Rattle.laws_attributes.proofs.Services.{form_given, given_by}
use Rattle.laws_pages.proofs.Each.{Each}
use Rattle.laws_pages.proofs.ServicesBack.{IsRead}
use Rattle.laws_pages.proofs.ShownAttributes.{shown}

-- a reading gives one value
both : (r : Read (Option Value)) (v w : Value) → r ≡ Ok (Some v) → r ≡ Ok (Some w) → v ≡ w
both (Ok (Some x)) v w e f = let one : x ≡ v = cc e in let two : x ≡ w = cc f in sym one ∙ two
both (Ok None) v w e f = absurd (cc e)
both (Err refusal) v w e f = absurd (cc e)

-- what is given where a test is passed
right : (b : Bool) (x v : Value) → if_right b (Some x) ≡ Ok (Some v) → x ≡ v
right true x v e = cc e
right false x v e = absurd (cc e)

module _ (es fs : Entries) (v w : Value) where
  scale_same : (r : Read ℕ) → (r >>= scale_among es) ≡ Ok (Some v) → (r >>= scale_among fs) ≡ Ok (Some w) → v ≡ w
  scale_same (Ok n) e f =
      sym (right (nat_le n 100 && same_count n (replicas_among es)) (Value.Num n) v e)
      ∙ right (nat_le n 100 && same_count n (replicas_among fs)) (Value.Num n) w f
  scale_same (Err refusal) e f = absurd (cc e)

  mode_same : (r : Read (List ℕ)) → (r >>= λ mode. if_right (not (has_networks es)) (Some (Value.Text mode))) ≡ Ok (Some v)
      → (r >>= λ mode. if_right (not (has_networks fs)) (Some (Value.Text mode))) ≡ Ok (Some w) → v ≡ w
  mode_same (Ok mode) e f = sym (right (not (has_networks es)) (Value.Text mode) v e) ∙ right (not (has_networks fs)) (Value.Text mode) w f
  mode_same (Err refusal) e f = absurd (cc e)

  external_same : (r : Read Bool) → (r >>= external_among es) ≡ Ok (Some v) → (r >>= external_among fs) ≡ Ok (Some w) → v ≡ w
  external_same (Ok true) e f =
      sym (right (not (list_any is_of_own es)) (Value.Bool true) v e) ∙ right (not (list_any is_of_own fs)) (Value.Bool true) w f
  external_same (Ok false) e f = absurd (cc e)
  external_same (Err refusal) e f = absurd (cc e)

  source_same : (r : Read (List ℕ)) → (r >>= source_among es) ≡ Ok (Some v) → (r >>= source_among fs) ≡ Ok (Some w) → v ≡ w
  source_same (Ok text) e f =
      sym (right (not (is_bind es) || has_no_colon text) (Value.Text text) v e) ∙ right (not (is_bind fs) || has_no_colon text) (Value.Text text) w f
  source_same (Err refusal) e f = absurd (cc e)

  -- what stands beside it may refuse a value, and makes no other of it
  plain_same : (plain : Plain) (tree : Tree) (s : Tree-F Tree) → plain_value plain es tree s ≡ Ok (Some v) → plain_value plain fs tree s ≡ Ok (Some w) → v ≡ w
  plain_same Plain.Scale tree s e f = scale_same (written num_of s) e f
  plain_same Plain.NetworkMode tree s e f = mode_same (accepted (if_passes (is_word_of words.NetworkModes)) s) e f
  plain_same Plain.External tree s e f = external_same (written bool_of s) e f
  plain_same Plain.Source tree s e f = source_same (text_of s) e f
  plain_same plain tree s e f = both (plain_value plain es tree s) v w e f

  given_same : (form : Form) (tree : Tree) → given_by form es tree (out-Tree tree) ≡ Ok (Some v) → given_by form fs tree (out-Tree tree) ≡ Ok (Some w) → v ≡ w
  given_same (Form.Plain plain) tree e f = plain_same plain tree (out-Tree tree) e f
  given_same (Form.Own row) tree e f = both (row_value row (out-Tree tree)) v w e f
  given_same Form.Consumed tree e f = absurd (cc e)

-- the value that an attribute was read of
named_value : (name : List ℕ) (r : Read (Option Value)) (a : Attribute) → (r >>= λ value. Ok (named name value)) ≡ Ok (a ∷ []) → r ≡ Ok (Some a.value)
named_value name (Err refusal) a e = absurd (cc e)
named_value name (Ok None) a e = absurd (cc e)
named_value name (Ok (Some value)) a e =
    let one : Attribute = record { name = name; value = value } in
    let same : one ≡ a = cc e in λ i. Ok (Some (same i).value)

by_same : (o : Option Form) (first second : Bool) (es fs : Entries) (name : List ℕ) (tree : Tree) (a b : Attribute)
    → attribute_by o first es name tree ≡ Ok (a ∷ []) → attribute_by o second fs name tree ≡ Ok (b ∷ []) → a.value ≡ b.value
by_same None first second es fs name tree a b e f = absurd (cc e)
by_same (Some form) first second es fs name tree a b e f =
    let one = form_given form first es tree a.value (named_value name (form_value form first es tree) a e) in
    let two = form_given form second fs tree b.value (named_value name (form_value form second fs tree) b f) in
    given_same es fs a.value b.value form tree one.1 two.1

module _ (first second : List (List ℕ)) (es fs : Entries) where
  -- two attributes of which the same is shown, each read again by itself
  one_same : (a b : Attribute) → IsRead first es a → IsRead second fs b → attribute_entry a ≡ attribute_entry b → a ≡ b
  one_same a b e f same =
      let name : a.name ≡ b.name = ap (λ (p : List ℕ × Node). p.0) same in
      let tree : shown a ≡ shown b = ap (λ (p : List ℕ × Node). value_of p.1) same in
      let again : attribute_by (form_of a.name) (is_in second a.name) fs a.name (shown a) ≡ Ok (b ∷ []) =
      (λ i. attribute_by (form_of (name i)) (is_in second (name i)) fs (name i) (tree i)) ∙ f in
      let value : a.value ≡ b.value = by_same (form_of a.name) (is_in first a.name) (is_in second a.name) es fs a.name (shown a) a b e again in
      λ i. record { name = name i; value = value i }

  -- and so for all
  pub all_same : (xs ys : List Attribute) → Each (IsRead first es) xs → Each (IsRead second fs) ys → map attribute_entry xs ≡ map attribute_entry ys → xs ≡ ys
  all_same [] [] h k e = refl
  all_same [] (y ∷ ys) h k e = absurd (cc e)
  all_same (x ∷ xs) [] h k e = absurd (cc e)
  all_same (x ∷ xs) (y ∷ ys) h k e =
      let head : attribute_entry x ≡ attribute_entry y = cc e in
      let tail : map attribute_entry xs ≡ map attribute_entry ys = cc e in
      let one = one_same x y h.0 k.0 head in
      let rest = all_same xs ys h.1 k.1 tail in λ i. one i ∷ rest i
