-- The entries of a mapping, in their order and in byte order of their keys, and those that extend nothing.
use Rattle.std.proofs.Common.{◌≡◌, ℕ, Bool, true, false, cond, not, List, [], ◌∷◌, ◌++◌, Some, None, length, map, refl, ap, sym, ◌∙◌, subst, IsPermutation}
use Rattle.std.specs.List.{AllByRecursion, IsDistinct, filter, list_any}
use Rattle.std.specs.List.Sorted.{IsSorted, IsSortedBy}
use Rattle.std.specs.Map.{keys_of, values_of}
use Rattle.std.specs.Cmp.Lexicographic.{nat_list_eq_equiv, slice_cmp}
use Rattle.std.specs.Ordering.{nat_cmp}
use Rattle.std.specs.Str.{bytes_eq}
use Rattle.std.specs.Prelude.{◌||◌}
use Rattle.tree_base.specs.Entries.{value_at}
use Rattle.std.proofs.lemmas.List.{length-map, map-append}
use Rattle.std.proofs.lemmas.List.Sorted.{IsPermutation-map}
use Rattle.std.proofs.lemmas.Map.Keys.{IsDistinct-IsPermutation, IsDistinct-cons, IsDistinct-push, IsDistinct-head, IsDistinct-tail}
use Rattle.tree_base.specs.declared.Tree.{Tree, Null}
use Rattle.tree_base.specs.ByteOrder.{by_key, is_before}
use Rattle.attribute_scalars.specs.Walks.{Entries, in_byte_order, is_extension, own_entries}
use Rattle.attribute_scalars.proofs.Walks.{map_seen}
use Rattle.attribute_scalars.proofs.Ordering.{keys_sorted, sorted_by_key}

-- a mapping has as many keys as values
pub as_long : (es : Entries) (keys : List (List ℕ)) (values : List Tree) → keys ≡ keys_of es → values ≡ values_of es → length keys ≡ length values
as_long es keys values ks vs = ap (length {A = List ℕ}) ks ∙ length-map es (λ e. e.0) ∙ sym (length-map es (λ e. e.1)) ∙ sym (ap (length {A = Tree}) vs)

abbrev key_of : List ℕ × Tree → List ℕ
key_of entry = entry.0

-- entries of a mapping that a sort has put in order are its entries in byte order
pub entries_sorted : {Y : Type 0} (view : Y → List ℕ × Tree) (list sorted : List Y) (entries : Entries) → map view list ≡ entries → IsDistinct bytes_eq (keys_of entries) → IsPermutation list sorted
    → IsSortedBy (λ x y. is_before (view x).0 (view y).0) sorted → map view sorted ≡ in_byte_order entries
entries_sorted {Y} view list sorted entries same d moved s =
    subst (λ (es : Entries). map view sorted ≡ by_key key_of es) same
    (sorted_by_key key_of ([], Null) (map view list) (map view sorted) (subst (λ (es : Entries). IsDistinct bytes_eq (keys_of es)) (sym same) d) (IsPermutation-map view list sorted moved)
    (subst (λ (keys : List (List ℕ)). IsSorted (slice_cmp nat_cmp) keys) (sym (map_seen key_of view sorted)) (keys_sorted (λ (y : Y). (view y).0) sorted s)))

-- entries whose keys differ still do when a sort has put them in order
pub sorted_distinct : {Y : Type 0} (view : Y → List ℕ × Tree) (list sorted : List Y) → IsDistinct bytes_eq (keys_of (map view list)) → IsPermutation list sorted → IsDistinct bytes_eq (keys_of (map view sorted))
sorted_distinct view list sorted d moved =
    IsDistinct-IsPermutation bytes_eq nat_list_eq_equiv.symm (keys_of (map view list)) (keys_of (map view sorted)) (IsPermutation-map key_of (map view list) (map view sorted) (IsPermutation-map view list sorted moved)) d

-- the views of what passes a test are the views that pass it
pub filter_seen : {X Y : Type 0} (view : Y → X) (test : X → Bool) (ys : List Y) → map view (filter (λ y. test (view y)) ys) ≡ filter test (map view ys)
filter_seen view test [] = refl
filter_seen view test (y ∷ ys) = at (test (view y)) (filter_seen view test ys)
  where
    at : (b : Bool) → map view (filter (λ y. test (view y)) ys) ≡ filter test (map view ys)
        → map view (cond b (y ∷ filter (λ y. test (view y)) ys) (filter (λ y. test (view y)) ys)) ≡ cond b (view y ∷ filter test (map view ys)) (filter test (map view ys))
    at true e = ap (λ l. view y ∷ l) e
    at false e = e

module _ (test : List ℕ × Tree → Bool) where
  others_kept : (P : List ℕ → Type 0) (es : Entries) → AllByRecursion P (keys_of es) → AllByRecursion P (keys_of (filter test es))
  others_kept P [] all = tt
  others_kept P (e ∷ es) all = at (test e) (others_kept P es all.1)
    where
      at : (b : Bool) → AllByRecursion P (keys_of (filter test es)) → AllByRecursion P (keys_of (cond b (e ∷ filter test es) (filter test es)))
      at true rest = (all.0, rest)
      at false rest = rest

  -- fewer keys differ too
  kept_distinct : (es : Entries) → IsDistinct bytes_eq (keys_of es) → IsDistinct bytes_eq (keys_of (filter test es))
  kept_distinct [] d = d
  kept_distinct (e ∷ es) d = at (test e) (kept_distinct es (IsDistinct-tail bytes_eq e.0 (keys_of es) d))
    where
      at : (b : Bool) → IsDistinct bytes_eq (keys_of (filter test es)) → IsDistinct bytes_eq (keys_of (cond b (e ∷ filter test es) (filter test es)))
      at true rest =
          IsDistinct-cons bytes_eq e.0 (keys_of (filter test es)) (others_kept (λ y. bytes_eq e.0 y ≡ false) es (IsDistinct-head bytes_eq e.0 (keys_of es) d)) rest
      at false rest = rest

-- the keys that extend nothing differ where all keys do
pub own_distinct : (entries : Entries) → IsDistinct bytes_eq (keys_of entries) → IsDistinct bytes_eq (keys_of (own_entries entries))
own_distinct entries d = kept_distinct (λ entry. not (is_extension entry.0)) entries d

no_key : (name : List ℕ) (es : Entries) → value_at es name ≡ None → list_any (bytes_eq name) (keys_of es) ≡ false
no_key name [] h = refl
no_key name (e ∷ es) h = at (bytes_eq name e.0) (no_key name es) h
  where
    at : (b : Bool) → (value_at es name ≡ None → list_any (bytes_eq name) (keys_of es) ≡ false) → cond b (Some e.1) (value_at es name) ≡ None → (b || list_any (bytes_eq name) (keys_of es)) ≡ false
    at true so h = absurd (cc h)
    at false so h = so h

-- one more key, which is not there, differs from all
pub wanting_distinct : (name : List ℕ) (tree : Tree) (es : Entries) → IsDistinct bytes_eq (keys_of es) → value_at es name ≡ None → IsDistinct bytes_eq (keys_of (es ++ (name, tree) ∷ []))
wanting_distinct name tree es d none =
    subst (λ (keys : List (List ℕ)). IsDistinct bytes_eq keys) (sym (map-append key_of es ((name, tree) ∷ []))) (IsDistinct-push nat_list_eq_equiv (keys_of es) name d (no_key name es none))
