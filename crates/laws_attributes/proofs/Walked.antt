-- What a walk over entries, and null under what is wanting, gave: attributes in order, each of an entry that isn't null.
use Rattle.std.proofs.Common.{◌≡◌, ◌∙◌, ◌⊎◌, ℕ, false, List, [], ◌∷◌, Some, Ok, inl, inr, refl, ap, sym}
use Rattle.std.specs.Prelude.{Option}
use Rattle.tree_base.specs.Entries as entries
use Rattle.tree_base.specs.declared.tree.Tree.{Tree, out-Tree}
use Rattle.tree_base.specs.declared.tree.Tree.TheVariants.{Null}
use Rattle.attribute_types.specs.Values.{value_at}
use Rattle.attribute_types.specs.declared.attribute.Attribute.{Attribute}
use Rattle.attribute_types.specs.declared.attribute.Value.{Value}
use Rattle.attribute_scalars.specs.Walks.{Entries, Read, each_entry, in_byte_order, is_null, with_wanting}
use Rattle.attribute_paths.proofs.Trees.{OfAll}
use Rattle.laws_attributes.proofs.Order.{InOrder, all_sorted, all_weaker, sorted_in_order}
use Rattle.laws_attributes.proofs.Lookups.{Apart, sorted_apart, sorted_value}
use Rattle.laws_attributes.proofs.Fields.{null_apart}
use Rattle.laws_attributes.proofs.Gifts.{From, each_from, gave, gave_in_order, key_of, looked, looked_up, name_of, reads}
use Rattle.laws_attributes.proofs.Wanting.{all_wanting, apart_wanting}

-- null is no value
abbrev pub PassesNull : (List ℕ → Tree → Read (Option Value)) → Type 0
PassesNull one = (name : List ℕ) (tree : Tree) (v : Value) → one name tree ≡ Ok (Some v) → is_null (out-Tree tree) ≡ false

module _ (one : List ℕ → Tree → Read (Option Value)) (wanted : List (List ℕ)) (es : Entries) (attributes : List Attribute)
    (e : each_entry (reads one) (in_byte_order (with_wanting wanted es)) ≡ Ok attributes) where
  pub walk_in_order : InOrder name_of attributes
  walk_in_order =
      gave_in_order one (in_byte_order (with_wanting wanted es)) attributes (sorted_in_order key_of (with_wanting wanted es))
      (gave one (in_byte_order (with_wanting wanted es)) attributes e)

  pub walk_came : PassesNull one → (P : List ℕ × Tree → Type 0) → OfAll P es → OfAll (From one P) attributes
  walk_came passes P h =
      all_weaker (From one Q) (From one P) back attributes
      (each_from one Q (in_byte_order (with_wanting wanted es)) attributes
      (all_sorted key_of Q (with_wanting wanted es) (all_wanting Q wanted es (all_weaker P Q (λ e p. inl p) es h) (nulls wanted)))
      (gave one (in_byte_order (with_wanting wanted es)) attributes e))
    where
      Q : List ℕ × Tree → Type 0
      Q entry = P entry ⊎ (entry.1 ≡ Null)

      nulls : (names : List (List ℕ)) → OfAll (λ name. Q (name, Null)) names
      nulls [] = tt
      nulls (name ∷ names) = (inr refl, nulls names)

      kept_of : (name : List ℕ) (tree : Tree) → Q (name, tree) → is_null (out-Tree tree) ≡ false → P (name, tree)
      kept_of name tree (inl p) there = p
      kept_of name tree (inr is) there = absurd (null_apart tree is there)

      back : (a : Attribute) → From one Q a → From one P a
      back a f = (f.0, kept_of a.name f.0 f.1 (passes a.name f.0 a.value f.2), f.2)

  pub walk_looked : Apart es → (k : List ℕ) → looked one k (entries.value_at (with_wanting wanted es) k) ≡ Ok (value_at attributes k)
  walk_looked apart k =
      let all = with_wanting wanted es in
      ap (looked one k) (sym (sorted_value all k))
      ∙ looked_up one (in_byte_order all) attributes (sorted_apart all (apart_wanting wanted es apart)) (gave one (in_byte_order all) attributes e) k
