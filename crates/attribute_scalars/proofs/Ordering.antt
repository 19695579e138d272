-- Elements in byte order of their keys, which differ.
use Rattle.std.proofs.Common.{◌≡◌, ℕ, zero, suc, ◌+◌, Bool, true, false, cond, List, [], ◌∷◌, Some, length, map, get_or, refl, ap, sym, ◌∙◌, subst, arith, IsPermutation}
use Rattle.std.specs.Prelude.{All, slice_get, unwrap_or}
use Rattle.std.proofs.lemmas.Cmp.{nat_list_cmp_total}
use Rattle.std.proofs.lemmas.List.{get_or-map, length-map}
use Rattle.std.proofs.lemmas.List.Elements.{All-nil, All-cons, All-head, All-tail}
use Rattle.std.proofs.lemmas.List.Sorted.{All-permutation, IsPermutation-map}
use Rattle.std.proofs.lemmas.Slice.Eq.{bytes_eq-Decides}
use Rattle.std.specs.List.{AllByRecursion, IsDistinct, find}
use Rattle.std.specs.List.Sorted.{IsSorted, IsSortedBy}
use Rattle.std.specs.Ordering.{is_lt, nat_cmp}
use Rattle.std.specs.declared.cmp.Ordering.{Ordering}
use Rattle.std.specs.declared.cmp.Ordering.TheVariants.{Less, Equal, Greater}
use Rattle.std.specs.Cmp.Lexicographic.{slice_cmp}
use Rattle.std.specs.Str.{bytes_eq}
use Rattle.tree_base.specs.ByteOrder.{IsAscending, by_key, is_before, placed}
use Rattle.tree_base.proofs.Sorting.{same_place, sorted_is}
use Rattle.attribute_scalars.proofs.KeptKeys as kept

other_way : (s t : List ℕ) → bytes_eq s t ≡ false → bytes_eq t s ≡ false
other_way s t e = at (bytes_eq t s) refl
  where
    at : (b : Bool) → bytes_eq t s ≡ b → bytes_eq t s ≡ false
    at true f = let bad : true ≡ false = sym ((bytes_eq-Decides s t).1 (sym ((bytes_eq-Decides t s).0 f))) ∙ e in absurd (cc bad)
    at false f = f

module _ {X : Type 0} (key : X → List ℕ) where
  -- to sort elements is to sort their keys
  pub map-by_key : (xs : List X) → map key (by_key key xs) ≡ by_key (λ (t : List ℕ). t) (map key xs)
  map-by_key xs = kept.map-by_key key (λ (t : List ℕ). t) xs

  -- what holds of each element holds of each when they are sorted
  module _ (P : X → Type 0) where
    pub All-placed : (x : X) (xs : List X) → P x → All P xs → All P (placed key x xs)
    All-placed x [] p all = All-cons P x [] p all
    All-placed x (y ∷ ys) p all = at (is_before (key y) (key x)) (All-placed x ys p (All-tail P y ys all))
      where
        at : (b : Bool) → All P (placed key x ys) → All P (cond b (y ∷ placed key x ys) (x ∷ y ∷ ys))
        at true rest = All-cons P y (placed key x ys) (All-head P y ys all) rest
        at false rest = All-cons P x (y ∷ ys) p all

    pub All-by_key : (xs : List X) → All P xs → All P (by_key key xs)
    All-by_key [] all = all
    All-by_key (x ∷ xs) all = All-placed x (by_key key xs) (All-head P x xs all) (All-by_key xs (All-tail P x xs all))

  -- elements that their keys give back
  given_back : (back : List ℕ → X) (xs : List X) → All (λ x. back (key x) ≡ x) xs → map back (map key xs) ≡ xs
  given_back back [] all = refl
  given_back back (x ∷ xs) all =
      ap (λ y. y ∷ map back (map key xs)) (All-head (λ y. back (key y) ≡ y) x xs all) ∙ ap (λ l. x ∷ l) (given_back back xs (All-tail (λ y. back (key y) ≡ y) x xs all))

  -- elements in order of their keys are the sorted ones, where keys give the elements back
  in_order_of : (back : List ℕ → X) (xs ys : List X) → All (λ x. back (key x) ≡ x) xs → IsPermutation xs ys → IsSorted (slice_cmp nat_cmp) (map key ys) → ys ≡ by_key key xs
  in_order_of back xs ys all moved sorted =
      sym (given_back back ys (All-permutation (λ x. back (key x) ≡ x) xs ys moved all))
      ∙ ap (map back) (sorted_is (map key xs) (map key ys) (IsPermutation-map key xs ys moved) sorted ∙ sym (map-by_key xs))
      ∙ given_back back (by_key key xs) (All-by_key (λ x. back (key x) ≡ x) xs all)

  -- each element stands before all later ones
  abbrev pub Rises : List X → Type 0
  Rises [] = Unit {0}
  Rises (x ∷ xs) = All (λ y. is_before (key x) (key y) ≡ true) xs × Rises xs

  less : (s t : List ℕ) → is_before s t ≡ true → slice_cmp nat_cmp s t ≡ Less
  less s t = at (slice_cmp nat_cmp s t)
    where
      at : (o : Ordering) → is_lt o ≡ true → o ≡ Less
      at Less e = refl
      at Equal e = absurd (cc e)
      at Greater e = absurd (cc e)

  before_all : (r s t : List ℕ) → is_before r s ≡ true → is_before s t ≡ true → is_before r t ≡ true
  before_all r s t e f = ap is_lt (nat_list_cmp_total.trans r s t (less r s e) (less s t f))

  after_all : (x y : X) (ys : List X) → is_before (key x) (key y) ≡ true → All (λ z. is_before (key y) (key z) ≡ true) ys → All (λ z. is_before (key x) (key z) ≡ true) ys
  after_all x y [] e all = All-nil (λ z. is_before (key x) (key z) ≡ true)
  after_all x y (z ∷ zs) e all =
      All-cons (λ z. is_before (key x) (key z) ≡ true) z zs (before_all (key x) (key y) (key z) e (All-head (λ z. is_before (key y) (key z) ≡ true) z zs all))
      (after_all x y zs e (All-tail (λ z. is_before (key y) (key z) ≡ true) z zs all))

  before_other : (s t : List ℕ) → is_before t s ≡ false → bytes_eq s t ≡ false → is_before s t ≡ true
  before_other s t e f = at (is_before s t) refl
    where
      at : (b : Bool) → is_before s t ≡ b → is_before s t ≡ true
      at true g = g
      at false g = let bad : true ≡ false = sym ((bytes_eq-Decides s t).1 (same_place s t g e)) ∙ f in absurd (cc bad)

  pub rises-placed : (x : X) (ys : List X) → All (λ y. bytes_eq (key x) (key y) ≡ false) ys → Rises ys → Rises (placed key x ys)
  rises-placed x [] others rise = (All-nil (λ y. is_before (key x) (key y) ≡ true), tt)
  rises-placed x (y ∷ ys) others rise = at (is_before (key y) (key x)) refl (rises-placed x ys (All-tail (λ z. bytes_eq (key x) (key z) ≡ false) y ys others) rise.1)
    where
      at : (b : Bool) → is_before (key y) (key x) ≡ b → Rises (placed key x ys) → Rises (cond b (y ∷ placed key x ys) (x ∷ y ∷ ys))
      at true e rest = (All-placed (λ z. is_before (key y) (key z) ≡ true) x ys e rise.0, rest)
      at false e rest =
          let first : is_before (key x) (key y) ≡ true = before_other (key x) (key y) e (All-head (λ z. bytes_eq (key x) (key z) ≡ false) y ys others) in
          (All-cons (λ z. is_before (key x) (key z) ≡ true) y ys first (after_all x y ys first rise.0), rise)

  pub others_are : (x : X) (xs : List X) → AllByRecursion (λ t. bytes_eq (key x) t ≡ false) (map key xs) → All (λ y. bytes_eq (key x) (key y) ≡ false) xs
  others_are x [] h = All-nil (λ y. bytes_eq (key x) (key y) ≡ false)
  others_are x (y ∷ ys) h = All-cons (λ y. bytes_eq (key x) (key y) ≡ false) y ys h.0 (others_are x ys h.1)

  pub rises-by_key : (xs : List X) → IsDistinct bytes_eq (map key xs) → Rises (by_key key xs)
  unfolding IsDistinct
  rises-by_key [] d = tt
  rises-by_key (x ∷ xs) d = rises-placed x (by_key key xs) (All-by_key (λ y. bytes_eq (key x) (key y) ≡ false) xs (others_are x xs d.0)) (rises-by_key xs d.1)

  All-at : (P : X → Type 0) (xs : List X) (j : ℕ) (y : X) → All P xs → slice_get xs j ≡ Some y → P y
  All-at P [] j y all e = absurd (cc e)
  All-at P (x ∷ xs) zero y all e = let same : x ≡ y = cc e in subst P same (All-head P x xs all)
  All-at P (x ∷ xs) (suc j) y all e = All-at P xs j y (All-tail P x xs all) e

  pub ascends : (xs : List X) → Rises xs → IsAscending (λ x y. is_before (key x) (key y)) xs
  ascends [] rise i j x y l e f = absurd (cc e)
  ascends (z ∷ zs) rise zero zero x y l e f = absurd (omega (arith, l))
  ascends (z ∷ zs) rise zero (suc j) x y l e f =
      let same : z ≡ x = cc e in subst (λ (w : X). is_before (key w) (key y) ≡ true) same (All-at (λ w. is_before (key z) (key w) ≡ true) zs j y rise.0 f)
  ascends (z ∷ zs) rise (suc i) zero x y l e f = absurd (omega (arith, l))
  ascends (z ∷ zs) rise (suc i) (suc j) x y l e f = ascends zs rise.1 i j x y (omega (arith, l)) e f

  -- elements of different keys, sorted, ascend
  pub by_key_ascends : (xs : List X) → IsDistinct bytes_eq (map key xs) → IsAscending (λ x y. is_before (key x) (key y)) (by_key key xs)
  by_key_ascends xs d = ascends (by_key key xs) (rises-by_key xs d)

  -- the element that has a key
  abbrev back : X → List X → List ℕ → X
  back other xs name = unwrap_or (find (λ x. bytes_eq name (key x)) xs) other

  passed_by : (other x : X) (xs ys : List X) → AllByRecursion (λ t. bytes_eq (key x) t ≡ false) (map key ys) → All (λ y. back other xs (key y) ≡ y) ys → All (λ y. back other (x ∷ xs) (key y) ≡ y) ys
  passed_by other x xs [] d all = All-nil (λ y. back other (x ∷ xs) (key y) ≡ y)
  passed_by other x xs (y ∷ ys) d all =
      All-cons (λ y. back other (x ∷ xs) (key y) ≡ y) y ys
      (ap (λ (b : Bool). unwrap_or (cond b (Some x) (find (λ z. bytes_eq (key y) (key z)) xs)) other) (other_way (key x) (key y) d.0) ∙ All-head (λ y. back other xs (key y) ≡ y) y ys all)
      (passed_by other x xs ys d.1 (All-tail (λ y. back other xs (key y) ≡ y) y ys all))

  gives_back : (other : X) (xs : List X) → IsDistinct bytes_eq (map key xs) → All (λ x. back other xs (key x) ≡ x) xs
  unfolding IsDistinct
  gives_back other [] d = All-nil (λ x. back other [] (key x) ≡ x)
  gives_back other (x ∷ xs) d =
      All-cons (λ y. back other (x ∷ xs) (key y) ≡ y) x xs
      (ap (λ (b : Bool). unwrap_or (cond b (Some x) (find (λ z. bytes_eq (key x) (key z)) xs)) other) ((bytes_eq-Decides (key x) (key x)).1 refl))
      (passed_by other x xs xs d.0 (gives_back other xs d.1))

  -- elements that a sort has put in order have their keys in order
  pub keys_sorted : (xs : List X) → IsSortedBy (λ x y. is_before (key x) (key y)) xs → IsSorted (slice_cmp nat_cmp) (map key xs)
  keys_sorted [] s k d low high = absurd (omega arith)
  keys_sorted (x ∷ xs) s k d low high =
      let size : length (map key (x ∷ xs)) ≡ length (x ∷ xs) = length-map (x ∷ xs) key in
      let one : get_or (map key (x ∷ xs)) k d ≡ key (get_or (x ∷ xs) k x) = get_or-map key (x ∷ xs) k x d (omega arith) in
      let next : get_or (map key (x ∷ xs)) (k + 1) d ≡ key (get_or (x ∷ xs) (k + 1) x) = get_or-map key (x ∷ xs) (k + 1) x d (omega arith) in
      rw (one, next) (s k x low (omega arith))

  -- elements of different keys that a sort has put in order are the elements in byte order
  pub sorted_by_key : (other : X) (xs sorted : List X) → IsDistinct bytes_eq (map key xs) → IsPermutation xs sorted → IsSorted (slice_cmp nat_cmp) (map key sorted) → sorted ≡ by_key key xs
  sorted_by_key other xs sorted d moved s = in_order_of (back other xs) xs sorted (gives_back other xs d) moved s
