-- Services in byte order are sorted, and their keys differ.
use Rattle.std.proofs.Common.{◌≡◌, ℕ, suc, ◌<◌, Bool, true, false, cond, List, [], ◌∷◌, Some, length, map, get_or, refl, ap, sym, ◌∙◌, arith}
use Rattle.std.specs.Prelude.{filter, slice_get}
use Rattle.std.specs.Cmp.Lexicographic.{slice_cmp}
use Rattle.std.specs.Ordering.{is_eq, is_lt, nat_cmp, ordering_reverse}
use Rattle.std.specs.Str.{bytes_eq}
use Rattle.std.specs.declared.cmp.Ordering.{Ordering}
use Rattle.std.specs.declared.cmp.Ordering.TheVariants.{Less, Equal, Greater}
use Rattle.std.proofs.lemmas.Cmp.{nat_list_cmp_total}
use Rattle.std.proofs.lemmas.Map.Text.{is_eq-slice_cmp}
use Rattle.std.proofs.lemmas.Option.{slice_get-get_or}
use Rattle.tree_base.specs.ByteOrder.{IsAscending, by_key, is_before, placed}

pub not_after : (x y : List ℕ) → is_before x y ≡ true → is_before y x ≡ false
not_after x y e = ap is_lt (nat_list_cmp_total.antisymm y x) ∙ at (slice_cmp nat_cmp x y) e
  where
    at : (o : Ordering) → is_lt o ≡ true → is_lt (ordering_reverse o) ≡ false
    at Less f = refl
    at Equal f = refl
    at Greater f = absurd (cc f)

pub not_same : (x y : List ℕ) → is_before x y ≡ true → bytes_eq x y ≡ false
not_same x y e = sym (is_eq-slice_cmp x y) ∙ at (slice_cmp nat_cmp x y) e
  where
    at : (o : Ordering) → is_lt o ≡ true → is_eq o ≡ false
    at Less f = refl
    at Equal f = absurd (cc f)
    at Greater f = refl

module _ {X : Type 0} (key : X → List ℕ) where
  abbrev Ascends : List X → Type 0
  Ascends = IsAscending (λ x y. is_before (key x) (key y))

  pub rest_ascends : (x : X) (xs : List X) → Ascends (x ∷ xs) → Ascends xs
  rest_ascends x xs up i j a b l e f = up (suc i) (suc j) a b (omega (arith, l)) e f

  -- a list in order is sorted
  pub sorted_already : (xs : List X) → Ascends xs → by_key key xs ≡ xs
  sorted_already [] up = refl
  sorted_already (x ∷ []) up = refl
  sorted_already (x ∷ y ∷ xs) up =
      ap (placed key x) (sorted_already (y ∷ xs) (rest_ascends x (y ∷ xs) up))
      ∙ ap (λ b. cond b (y ∷ placed key x xs) (x ∷ y ∷ xs)) (not_after (key x) (key y) (up 0 1 x y (omega arith) refl refl))

  pub ascending_apart : (xs : List X) → Ascends xs → (i j : ℕ) (d : X) → i < j → j < length xs → bytes_eq (key (get_or xs i d)) (key (get_or xs j d)) ≡ false
  ascending_apart xs up i j d l m =
      not_same (key (get_or xs i d)) (key (get_or xs j d))
      (up i j (get_or xs i d) (get_or xs j d) l (slice_get-get_or xs i d (omega (arith, l, m))) (slice_get-get_or xs j d m))

  -- the keys of what passes a test stay sorted
  module _ (t : X → Bool) where
    front : (x : X) (xs : List X) → ((j : ℕ) (y : X) → slice_get xs j ≡ Some y → is_before (key x) (key y) ≡ true)
        → placed (λ name. name) (key x) (map key (filter t xs)) ≡ key x ∷ map key (filter t xs)
    front x [] low = refl
    front x (y ∷ ys) low = at (t y) (front x ys (λ j z e. low (suc j) z e))
      where
        at : (b : Bool) → placed (λ name. name) (key x) (map key (filter t ys)) ≡ key x ∷ map key (filter t ys)
            → placed (λ name. name) (key x) (map key (cond b (y ∷ filter t ys) (filter t ys))) ≡ key x ∷ map key (cond b (y ∷ filter t ys) (filter t ys))
        at true rest = ap (λ b. cond b (key y ∷ placed (λ name. name) (key x) (map key (filter t ys))) (key x ∷ key y ∷ map key (filter t ys))) (not_after (key x) (key y) (low 0 y refl))
        at false rest = rest

    pub passing_sorted : (xs : List X) → Ascends xs → by_key (λ name. name) (map key (filter t xs)) ≡ map key (filter t xs)
    passing_sorted [] up = refl
    passing_sorted (x ∷ xs) up = at (t x) (passing_sorted xs (rest_ascends x xs up))
      where
        at : (b : Bool) → by_key (λ name. name) (map key (filter t xs)) ≡ map key (filter t xs)
            → by_key (λ name. name) (map key (cond b (x ∷ filter t xs) (filter t xs))) ≡ map key (cond b (x ∷ filter t xs) (filter t xs))
        at true rest = ap (placed (λ name. name) (key x)) rest ∙ front x xs (λ j y e. up 0 (suc j) x y (omega arith) refl e)
        at false rest = rest
