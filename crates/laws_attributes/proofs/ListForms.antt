-- Lists, pairs, labels and kept mappings are read again of what is shown of them.
use Rattle.std.proofs.Common.{◌≡◌, ◌∙◌, ℕ, Bool, true, false, List, [], ◌∷◌, map, Option, Some, None, Ok, refl, ap, sym, subst}
use Rattle.std.specs.Option.{ok_or}
use Rattle.tree_base.specs.Answers.{◌>>=◌}
use Rattle.tree_base.specs.ByteOrder.{is_before}
use Rattle.tree_base.specs.declared.tree.Tree.{Tree, out-Tree}
use Rattle.tree_base.specs.declared.tree.Tree.TheOpen.{Tree-F}
use Rattle.tree_base.specs.declared.tree.Tree.TheVariants.{outs-Map, outs-Null, outs-Scalar}
use Rattle.attribute_types.specs.declared.attribute.Value.{Value}
use Rattle.attribute_types.specs.declared.form.ItemForm.{ItemForm}
use Rattle.attribute_types.specs.declared.form.Plain.{Plain}
use Rattle.attribute_types.specs.declared.refusal.AttributeRefusal.TheVariants.{At}
use Rattle.attribute_types.specs.declared.refusal.Fault.{Fault}
use Rattle.attribute_scalars.specs.Lists.{all_passing, as_test, if_any, is_nullable, labelled, mapping_in, ordered, pair_of, pairs_from, pairs_of, texts_of}
use Rattle.attribute_scalars.specs.Scalars.{has_form, text_in}
use Rattle.attribute_scalars.specs.Walks.{Entries, Read, in_byte_order, is_null}
use Rattle.attribute_scalars.proofs.Pairs.{all_nullable, all_pairs, nullable_pairs, other_pairs}
use Rattle.attribute_values.specs.Forms.{items_of, kept, kept_if_any, labels_of, test_of}
use Rattle.attribute_paths.proofs.Trees.{OfAll}
use Rattle.laws_attributes.proofs.Order.{InOrder, order_stays, sorted_in_order}
use Rattle.laws_attributes.proofs.Gifts.{key_of}
use Rattle.laws_attributes.proofs.KeptTrees.{ordered_again, ordered_out}
use Rattle.laws_attributes.proofs.PlainForms.{Back, any_back, any_given, asked_back, bound_given, kept_back, kept_given, map_there, passing_same, seq_there, test_same, texts_back}
use Rattle.laws_attributes.proofs.Shown.{pair_tree, pairs_tree, texts_tree}

-- what is made of elements in order, under the same keys, is in order
module _ {X Y : Type 0} (from : X → List ℕ) (to : Y → List ℕ) (f : X → Y) (same : (x : X) → to (f x) ≡ from x) where
  heads : (x : X) (ys : List X) → OfAll (λ y. is_before (from y) (from x) ≡ false) ys → OfAll (λ z. is_before (to z) (to (f x)) ≡ false) (map f ys)
  heads x [] h = tt
  heads x (y ∷ ys) h = ((λ i. is_before (same y i) (same x i)) ∙ h.0, heads x ys h.1)

  pub in_order_map : (xs : List X) → InOrder from xs → InOrder to (map f xs)
  in_order_map [] h = tt
  in_order_map (x ∷ xs) h = (heads x xs h.0, in_order_map xs h.1)

-- lists
pub list_shown : (texts : List (List ℕ)) → if_any texts ≡ Some texts → Back Plain.List (Value.List texts)
list_shown texts some = (seq_there _, λ beside. any_back Value.List (texts_of (out-Tree (texts_tree texts))) texts (texts_back texts) some)

pub list_form : (s : Tree-F Tree) (v : Value) → kept_if_any Value.List (texts_of s) ≡ Ok (Some v) → Back Plain.List v
list_form s v e = let k = any_given Value.List (texts_of s) v e in subst (Back Plain.List) k.3 (list_shown k.0 k.2)

pub items_form : (form : ItemForm) (s : Tree-F Tree) (v : Value) → kept_if_any Value.List (items_of form s) ≡ Ok (Some v) → Back (Plain.Items form) v
items_form form s v e =
    let k = any_given Value.List (items_of form s) v e in
    subst (Back (Plain.Items form)) k.3 (
      seq_there _,
      λ beside.
          any_back Value.List (items_of form (out-Tree (texts_tree k.0))) k.0 (asked_back (all_passing (has_form form)) (passing_same (has_form form)) s k.0 k.1) k.2,
    )

pub argv_shown : (texts : List (List ℕ)) → Back Plain.Argv (Value.Argv texts)
argv_shown texts = (seq_there _, λ beside. kept_back Value.Argv (texts_of (out-Tree (texts_tree texts))) texts (texts_back texts))

pub argv_form : (s : Tree-F Tree) (v : Value) → kept Value.Argv (texts_of s) ≡ Ok (Some v) → Back Plain.Argv v
argv_form s v e = let k = kept_given Value.Argv (texts_of s) v e in subst (Back Plain.Argv) k.2 (argv_shown k.0)

pub test_form : (s : Tree-F Tree) (v : Value) → kept Value.Argv (test_of s) ≡ Ok (Some v) → Back Plain.Test v
test_form s v e =
    let k = kept_given Value.Argv (test_of s) v e in
    subst (Back Plain.Test) k.2 (seq_there _, λ beside. kept_back Value.Argv (test_of (out-Tree (texts_tree k.0))) k.0 (asked_back as_test test_same s k.0 k.1))

-- pairs
abbrev pub pair_key : List ℕ × Option (List ℕ) → List ℕ
pair_key pair = pair.0

from_entries : (es : Entries) (ps : List (List ℕ × Option (List ℕ))) → InOrder key_of es → pairs_from es ≡ Ok ps → InOrder pair_key ps
from_entries es ps h e = at (all_nullable es) refl
  where
    given : (o : Option (List (List ℕ × Option (List ℕ)))) → all_pairs es ≡ o → ok_or o (At Fault.WrongKind []) ≡ Ok ps → all_pairs es ≡ Some ps
    given None is f = absurd (cc f)
    given (Some found) is f = let same : found ≡ ps = cc f in is ∙ ap (λ (l : List (List ℕ × Option (List ℕ))). Some l) same

    at : (b : Bool) → all_nullable es ≡ b → InOrder pair_key ps
    at true all =
        let twice : Some (map pair_of es) ≡ Some ps = sym (nullable_pairs es all) ∙ given (all_pairs es) refl e in
        let same : map pair_of es ≡ ps = cc twice in
        subst (λ (l : List (List ℕ × Option (List ℕ))). InOrder pair_key l) same (in_order_map key_of pair_key pair_of (λ x. refl) es h)
    at false all = let none : None ≡ Some ps = sym (other_pairs es all) ∙ given (all_pairs es) refl e in absurd (cc none)

pub pairs_given : (s : Tree-F Tree) (ps : List (List ℕ × Option (List ℕ))) → pairs_of s ≡ Ok ps → InOrder pair_key ps
pairs_given Tree-F.Null ps e = absurd (cc e)
pairs_given (Tree-F.Scalar text) ps e = absurd (cc e)
pairs_given (Tree-F.Map entries) ps e = from_entries (in_byte_order entries) ps (sorted_in_order key_of entries) e
pairs_given (Tree-F.Seq items) ps e = absurd (cc e)
pairs_given Tree-F.Reset ps e = absurd (cc e)
pairs_given (Tree-F.Override inner) ps e = absurd (cc e)

pair_nullable : (value : Option (List ℕ)) (key : List ℕ) → is_nullable (out-Tree (pair_tree (key, value)).1) ≡ true
pair_nullable None key = ap is_nullable outs-Null
pair_nullable (Some text) key = ap is_nullable (outs-Scalar text)

pairs_nullable : (ps : List (List ℕ × Option (List ℕ))) → all_nullable (map pair_tree ps) ≡ true
pairs_nullable [] = refl
pairs_nullable (p ∷ ps) = rw (pair_nullable p.1 p.0, pairs_nullable ps) refl

pair_text : (value : Option (List ℕ)) (key : List ℕ) → text_in (out-Tree (pair_tree (key, value)).1) ≡ value
pair_text None key = ap text_in outs-Null
pair_text (Some text) key = ap text_in (outs-Scalar text)

pairs_again : (ps : List (List ℕ × Option (List ℕ))) → map pair_of (map pair_tree ps) ≡ ps
pairs_again [] = refl
pairs_again (p ∷ ps) = (λ i. (p.0, pair_text p.1 p.0 i) ∷ pairs_again ps i)

pub pairs_back : (ps : List (List ℕ × Option (List ℕ))) → InOrder pair_key ps → pairs_of (out-Tree (pairs_tree ps)) ≡ Ok ps
pairs_back ps h =
    let es = map pair_tree ps in
    ap pairs_of (outs-Map es)
    ∙ ap pairs_from (order_stays key_of es (in_order_map pair_key key_of pair_tree (λ x. refl) ps h))
    ∙ ap (λ o. ok_or o (At Fault.WrongKind [])) (nullable_pairs es (pairs_nullable ps))
    ∙ ap (λ (l : List (List ℕ × Option (List ℕ))). ok_pairs l) (pairs_again ps)
  where
    ok_pairs : List (List ℕ × Option (List ℕ)) → Read (List (List ℕ × Option (List ℕ)))
    ok_pairs l = Ok l

pub pairs_shown : (ps : List (List ℕ × Option (List ℕ))) → InOrder pair_key ps → if_any ps ≡ Some ps → Back Plain.Pairs (Value.Pairs ps)
pairs_shown ps h some = (map_there _, λ beside. any_back Value.Pairs (pairs_of (out-Tree (pairs_tree ps))) ps (pairs_back ps h) some)

pub pairs_form : (s : Tree-F Tree) (v : Value) → kept_if_any Value.Pairs (pairs_of s) ≡ Ok (Some v) → Back Plain.Pairs v
pairs_form s v e = let k = any_given Value.Pairs (pairs_of s) v e in subst (Back Plain.Pairs) k.3 (pairs_shown k.0 (pairs_given s k.0 k.1) k.2)

labelled_again : (ps : List (List ℕ × Option (List ℕ))) → map labelled (map labelled ps) ≡ map labelled ps
labelled_again [] = refl
labelled_again (p ∷ ps) = ap (λ l. labelled p ∷ l) (labelled_again ps)

-- labels
pub labels_form : (s : Tree-F Tree) (v : Value) → kept_if_any Value.Pairs (labels_of s) ≡ Ok (Some v) → Back Plain.Labels v
labels_form s v e =
    let k = any_given Value.Pairs (labels_of s) v e in
    let b = bound_given (pairs_of s) (λ pairs. ok_labels (map labelled pairs)) k.0 k.1 in
    let same : map labelled b.0 ≡ k.0 = cc b.2 in
    let order = subst (λ (l : List (List ℕ × Option (List ℕ))). InOrder pair_key l) same (in_order_map pair_key pair_key labelled (λ x. refl) b.0 (pairs_given s b.0 b.1)) in
    let again = subst (λ (l : List (List ℕ × Option (List ℕ))). map labelled l ≡ l) same (labelled_again b.0) in
    subst (Back Plain.Labels) k.3 (
      map_there _,
      λ beside.
          any_back Value.Pairs (labels_of (out-Tree (pairs_tree k.0))) k.0
          (ap (λ r. r >>= λ pairs. ok_labels (map labelled pairs)) (pairs_back k.0 order) ∙ ap ok_labels again) k.2,
    )
  where
    ok_labels : List (List ℕ × Option (List ℕ)) → Read (List (List ℕ × Option (List ℕ)))
    ok_labels l = Ok l

-- what is kept is a mapping in byte order
pub mapping_given : (tree : Tree) (s : Tree-F Tree) (t : Tree) → mapping_in tree s ≡ Ok t → (es : Entries) × (s ≡ Tree-F.Map es) × (ordered tree ≡ t)
mapping_given tree Tree-F.Null t e = absurd (cc e)
mapping_given tree (Tree-F.Scalar text) t e = absurd (cc e)
mapping_given tree (Tree-F.Map entries) t e = (entries, refl, cc e)
mapping_given tree (Tree-F.Seq items) t e = absurd (cc e)
mapping_given tree Tree-F.Reset t e = absurd (cc e)
mapping_given tree (Tree-F.Override inner) t e = absurd (cc e)

-- and is kept again
pub mapping_back : (tree : Tree) (es : Entries) → out-Tree tree ≡ Tree-F.Map es → mapping_in (ordered tree) (out-Tree (ordered tree)) ≡ Ok (ordered tree)
mapping_back tree es is = ap (mapping_in (ordered tree)) (ordered_out tree es is) ∙ ap (λ (t : Tree). ok_tree t) (ordered_again tree)
  where
    ok_tree : Tree → Read Tree
    ok_tree t = Ok t

pub kept_there : (tree : Tree) (es : Entries) → out-Tree tree ≡ Tree-F.Map es → is_null (out-Tree (ordered tree)) ≡ false
kept_there tree es is = ap is_null (ordered_out tree es is)

pub kept_form : (tree : Tree) (v : Value) → kept Value.Kept (mapping_in tree (out-Tree tree)) ≡ Ok (Some v) → Back Plain.Kept v
kept_form tree v e =
    let k = kept_given Value.Kept (mapping_in tree (out-Tree tree)) v e in
    let m = mapping_given tree (out-Tree tree) k.0 k.1 in
    subst (Back Plain.Kept) (ap (λ t. Value.Kept t) m.2 ∙ k.2)
    (kept_there tree m.0 m.1, λ beside. kept_back Value.Kept (mapping_in (ordered tree) (out-Tree (ordered tree))) (ordered tree) (mapping_back tree m.0 m.1))
