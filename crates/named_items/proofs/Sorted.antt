-- Items whose names differ, once a sort has put them in order.
use Rattle.std.proofs.Common.{◌≡◌, ℕ, List, [], ◌∷◌, map, sym, subst, IsPermutation}
use Rattle.std.specs.List.{IsDistinct}
use Rattle.std.specs.List.Sorted.{IsSorted, IsSortedBy}
use Rattle.std.specs.Cmp.Lexicographic.{nat_list_eq_equiv, slice_cmp}
use Rattle.std.specs.Ordering.{nat_cmp}
use Rattle.std.specs.Str.{bytes_eq}
use Rattle.std.proofs.lemmas.List.{nil_from_length}
use Rattle.std.proofs.lemmas.List.Sorted.{IsPermutation-map, length_permutation}
use Rattle.std.proofs.lemmas.Map.Keys.{IsDistinct-IsPermutation}
use Rattle.attribute_scalars.proofs.Ordering.{by_key_ascends, keys_sorted, sorted_by_key}
use Rattle.attribute_scalars.proofs.Walks.{map_seen}
use Rattle.tree_base.specs.ByteOrder.{IsAscending, by_key, is_before}

module _ {X : Type 0} (key : X → List ℕ) where
  -- items that a sort has put in order are the items in byte order
  in_order : (xs ys : List X) → IsDistinct bytes_eq (map key xs) → IsPermutation xs ys → IsSorted (slice_cmp nat_cmp) (map key ys) → ys ≡ by_key key xs
  in_order [] ys d moved s = nil_from_length ys (length_permutation [] ys moved)
  in_order (x ∷ xs) ys d moved s = sorted_by_key key x (x ∷ xs) ys d moved s

  module _ {Y : Type 0} (view : Y → X) (list sorted : List Y) (d : IsDistinct bytes_eq (map key (map view list))) (moved : IsPermutation list sorted) where
    pub sorted_rows : IsSortedBy (λ x y. is_before (key (view x)) (key (view y))) sorted → map view sorted ≡ by_key key (map view list)
    sorted_rows s =
        in_order (map view list) (map view sorted) d (IsPermutation-map view list sorted moved)
        (subst (λ (keys : List (List ℕ)). IsSorted (slice_cmp nat_cmp) keys) (sym (map_seen key view sorted)) (keys_sorted (λ (y : Y). key (view y)) sorted s))

    -- and they stand in that order
    pub sorted_ascend : IsSortedBy (λ x y. is_before (key (view x)) (key (view y))) sorted → IsAscending (λ x y. is_before (key x) (key y)) (map view sorted)
    sorted_ascend s = subst (λ (l : List X). IsAscending (λ x y. is_before (key x) (key y)) l) (sym (sorted_rows s)) (by_key_ascends key (map view list) d)

    -- and their names differ still
    pub sorted_distinct : IsDistinct bytes_eq (map key (map view sorted))
    sorted_distinct =
        IsDistinct-IsPermutation bytes_eq nat_list_eq_equiv.symm (map key (map view list)) (map key (map view sorted))
        (IsPermutation-map key (map view list) (map view sorted) (IsPermutation-map view list sorted moved)) d
