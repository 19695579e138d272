-- A list that a sort has put in byte order is the elements in byte order.
use Rattle.std.proofs.Common.{◌≡◌, ℕ, zero, suc, ◌+◌, ◌<◌, Bool, true, false, cond, List, [], ◌∷◌, length, get_or, set, swap, refl, sym, ap, ◌∙◌, subst, arith, IsPermutation}
use Rattle.std.proofs.lemmas.Cmp.{nat_list_cmp_total}
use Rattle.std.proofs.lemmas.List.Sorted.{IsPermutation-keeps}
use Rattle.std.proofs.lemmas.Map.Text.{is_eq-slice_cmp}
use Rattle.std.proofs.lemmas.Slice.Eq.{bytes_eq-Decides}
use Rattle.std.specs.Cmp.Lexicographic.{slice_cmp}
use Rattle.std.specs.List.Sorted.{IsSorted}
use Rattle.std.specs.Ordering.{is_lt, is_eq, nat_cmp, ordering_reverse}
use Rattle.std.specs.declared.cmp.Ordering.{Ordering}
use Rattle.std.specs.declared.cmp.Ordering.TheVariants.{Less, Equal, Greater}
use Rattle.tree_base.specs.ByteOrder.{by_key, is_before, placed}

abbrev order : List ℕ → List ℕ → Ordering
order = slice_cmp nat_cmp

before_not_after : (x y : List ℕ) → is_before x y ≡ true → is_before y x ≡ false
before_not_after x y e = ap is_lt (nat_list_cmp_total.antisymm y x) ∙ at (order x y) e
  where
    at : (o : Ordering) → is_lt o ≡ true → is_lt (ordering_reverse o) ≡ false
    at Less f = refl
    at Equal f = refl
    at Greater f = absurd (cc f)

pub same_place : (x y : List ℕ) → is_before x y ≡ false → is_before y x ≡ false → x ≡ y
same_place x y e f = (bytes_eq-Decides x y).0 (sym (is_eq-slice_cmp x y) ∙ at (order x y) e (sym (ap is_lt (nat_list_cmp_total.antisymm y x)) ∙ f))
  where
    at : (o : Ordering) → is_lt o ≡ false → is_lt (ordering_reverse o) ≡ false → is_eq o ≡ true
    at Less g h = absurd (cc g)
    at Equal g h = refl
    at Greater g h = absurd (cc h)

-- what isn't after the one that is before another is before that one
before_through : (x y z : List ℕ) → is_before z y ≡ false → is_before z x ≡ true → is_before y x ≡ true
before_through x y z e f = at (order y z) refl
  where
    less : (o : Ordering) → is_lt o ≡ true → o ≡ Less
    less Less g = refl
    less Equal g = absurd (cc g)
    less Greater g = absurd (cc g)

    at : (o : Ordering) → order y z ≡ o → is_before y x ≡ true
    at Less g = ap is_lt (nat_list_cmp_total.trans y z x g (less (order z x) f))
    at Equal g = ap is_lt (nat_list_cmp_total.congr y z x g) ∙ f
    at Greater g = let bad : true ≡ false = sym (ap is_lt (nat_list_cmp_total.antisymm z y ∙ ap ordering_reverse g)) ∙ e in absurd (cc bad)

abbrev put : List ℕ → List (List ℕ) → List (List ℕ)
put = placed (λ t. t)

front : (x y : List ℕ) (l : List (List ℕ)) (t u : Bool) → is_before y x ≡ t → is_before x y ≡ u → cond t (y ∷ x ∷ l) (x ∷ y ∷ l) ≡ cond u (x ∷ y ∷ l) (y ∷ x ∷ l)
front x y l true true e f = let bad : true ≡ false = sym f ∙ before_not_after y x e in absurd (cc bad)
front x y l true false e f = refl
front x y l false true e f = refl
front x y l false false e f = let same : x ≡ y = same_place x y f e in ap (λ z. x ∷ z ∷ l) (sym same) ∙ ap (λ z. z ∷ x ∷ l) same

-- it doesn't matter which of two texts is put first
put-put : (x y : List ℕ) (l : List (List ℕ)) → put x (put y l) ≡ put y (put x l)
put-put x y [] = front x y [] (is_before y x) (is_before x y) refl refl
put-put x y (z ∷ l) = at (is_before z x) refl (is_before z y) refl (put-put x y l)
  where
    at : (t : Bool) → is_before z x ≡ t → (u : Bool) → is_before z y ≡ u → put x (put y l) ≡ put y (put x l)
        → put x (cond u (z ∷ put y l) (y ∷ z ∷ l)) ≡ put y (cond t (z ∷ put x l) (x ∷ z ∷ l))
    at true e true f rest = ap (λ b. cond b (z ∷ put x (put y l)) (x ∷ z ∷ put y l)) e ∙ ap (λ m. z ∷ m) rest ∙ sym (ap (λ b. cond b (z ∷ put y (put x l)) (y ∷ z ∷ put x l)) f)
    at true e false f rest =
        ap (λ b. cond b (y ∷ cond (is_before z x) (z ∷ put x l) (x ∷ z ∷ l)) (x ∷ y ∷ z ∷ l)) (before_through x y z f e) ∙ ap (λ b. y ∷ cond b (z ∷ put x l) (x ∷ z ∷ l)) e
        ∙ sym (ap (λ b. cond b (z ∷ put y (put x l)) (y ∷ z ∷ put x l)) f)
    at false e true f rest =
        ap (λ b. cond b (z ∷ put x (put y l)) (x ∷ z ∷ put y l)) e
        ∙ sym (ap (λ b. cond b (x ∷ cond (is_before z y) (z ∷ put y l) (y ∷ z ∷ l)) (y ∷ x ∷ z ∷ l)) (before_through y x z e f) ∙ ap (λ b. x ∷ cond b (z ∷ put y l) (y ∷ z ∷ l)) f)
    at false e false f rest =
        ap (λ b. cond (is_before y x) (y ∷ cond b (z ∷ put x l) (x ∷ z ∷ l)) (x ∷ y ∷ z ∷ l)) e
        ∙ front x y (z ∷ l) (is_before y x) (is_before x y) refl refl
        ∙ sym (ap (λ b. cond (is_before x y) (x ∷ cond b (z ∷ put y l) (y ∷ z ∷ l)) (y ∷ x ∷ z ∷ l)) f)

abbrev sorted : List (List ℕ) → List (List ℕ)
sorted = by_key (λ t. t)

to_head : (l : List (List ℕ)) (j : ℕ) (x d : List ℕ) → j < length l → sorted (x ∷ l) ≡ sorted (get_or l j d ∷ set l j x)
to_head [] j x d h = absurd (omega arith)
to_head (y ∷ l) zero x d h = put-put x y (sorted l)
to_head (y ∷ l) (suc j) x d h =
    put-put x y (sorted l) ∙ ap (put y) (to_head l j x d (omega arith)) ∙ put-put y (get_or l j d) (sorted (set l j x))

exchanged : (l : List (List ℕ)) (i j : ℕ) (d : List ℕ) → i < length l → j < length l → sorted l ≡ sorted (set (set l i (get_or l j d)) j (get_or l i d))
exchanged [] i j d p q = absurd (omega arith)
exchanged (x ∷ l) zero zero d p q = refl
exchanged (x ∷ l) zero (suc j) d p q = to_head l j x d (omega arith)
exchanged (x ∷ l) (suc i) zero d p q = to_head l i x d (omega arith)
exchanged (x ∷ l) (suc i) (suc j) d p q = ap (put x) (exchanged l i j d (omega arith) (omega arith))

swapped : (l : List (List ℕ)) (i j : ℕ) → i < length l → j < length l → sorted l ≡ sorted (swap l i j)
swapped [] i j p q = refl
swapped (x ∷ l) i j p q = exchanged (x ∷ l) i j x p q

same_sorted : (xs ys : List (List ℕ)) → IsPermutation xs ys → sorted xs ≡ sorted ys
same_sorted xs = IsPermutation-keeps xs (λ l. sorted xs ≡ sorted l) refl (λ l i j p q h. h ∙ swapped l i j p q)

already : (ys : List (List ℕ)) → IsSorted order ys → sorted ys ≡ ys
already [] s = refl
already (y ∷ []) s = refl
already (y ∷ z ∷ ys) s =
    ap (put y) (already (z ∷ ys) (λ k d l h. let e : suc k + 1 ≡ suc (k + 1) = omega arith in
    subst (λ n. is_lt (order (get_or (y ∷ z ∷ ys) n d) (get_or (z ∷ ys) k d)) ≡ false) e (s (suc k) d (omega arith) (omega arith)))) ∙ ap (λ b. cond b (z ∷ put y ys) (y ∷ z ∷ ys)) (s 0 y (omega arith) (omega arith))

pub sorted_is : (xs ys : List (List ℕ)) → IsPermutation xs ys → IsSorted order ys → ys ≡ by_key (λ t. t) xs
sorted_is xs ys p s = sym (already ys s) ∙ sym (same_sorted xs ys p)
