-- The first rows with each id have different ids, and are all rows where ids differ already.
use Rattle.std.proofs.Common.{◌≡◌, Bool, true, false, cond, List, [], ◌∷◌, map, refl, ap, ◌∙◌}
use Rattle.std.specs.List.{AllByRecursion, IsDistinct}
use Rattle.std.specs.Prelude.{ℕ, filter, not}
use Rattle.std.specs.Str.{bytes_eq}
use Rattle.tree_base.specs.ByteOrder.{first_of_each}

module _ {X : Type 0} (key : X → List ℕ) where
  -- what doesn't equal a key, and is kept by a test, still doesn't
  kept_apart : (k : List ℕ) (test : X → Bool) (xs : List X) → AllByRecursion (λ (y : List ℕ). bytes_eq k y ≡ false) (map key xs)
      → AllByRecursion (λ (y : List ℕ). bytes_eq k y ≡ false) (map key (filter test xs))
  kept_apart k test [] a = tt
  kept_apart k test (x ∷ xs) a = at (test x) (kept_apart k test xs a.1)
    where
      at : (t : Bool) → AllByRecursion (λ (y : List ℕ). bytes_eq k y ≡ false) (map key (filter test xs))
          → AllByRecursion (λ (y : List ℕ). bytes_eq k y ≡ false) (map key (cond t (x ∷ filter test xs) (filter test xs)))
      at true rest = (a.0, rest)
      at false rest = rest

  kept_distinct : (test : X → Bool) (xs : List X) → IsDistinct bytes_eq (map key xs) → IsDistinct bytes_eq (map key (filter test xs))
  unfolding IsDistinct
  kept_distinct test [] d = tt
  kept_distinct test (x ∷ xs) d = at (test x) (kept_distinct test xs d.1)
    where
      at : (t : Bool) → IsDistinct bytes_eq (map key (filter test xs)) → IsDistinct bytes_eq (map key (cond t (x ∷ filter test xs) (filter test xs)))
      at true rest = (kept_apart (key x) test xs d.0, rest)
      at false rest = rest

  apart : (k : List ℕ) (xs : List X) → AllByRecursion (λ (y : List ℕ). bytes_eq k y ≡ false) (map key (filter (λ (y : X). not (bytes_eq k (key y))) xs))
  apart k [] = tt
  apart k (x ∷ xs) = at (bytes_eq k (key x)) refl (apart k xs)
    where
      at : (t : Bool) → bytes_eq k (key x) ≡ t → AllByRecursion (λ (y : List ℕ). bytes_eq k y ≡ false) (map key (filter (λ (y : X). not (bytes_eq k (key y))) xs))
          → AllByRecursion (λ (y : List ℕ). bytes_eq k y ≡ false)
          (map key (cond (not t) (x ∷ filter (λ (y : X). not (bytes_eq k (key y))) xs) (filter (λ (y : X). not (bytes_eq k (key y))) xs)))
      at true h rest = rest
      at false h rest = (h, rest)

  pub distinct_first : (xs : List X) → IsDistinct bytes_eq (map key (first_of_each key xs))
  unfolding IsDistinct
  distinct_first [] = tt
  distinct_first (x ∷ xs) = (apart (key x) (first_of_each key xs), kept_distinct (λ (y : X). not (bytes_eq (key x) (key y))) (first_of_each key xs) (distinct_first xs))

  -- a filter that all pass keeps all
  all_kept : (k : List ℕ) (xs : List X) → AllByRecursion (λ (y : List ℕ). bytes_eq k y ≡ false) (map key xs) → filter (λ (y : X). not (bytes_eq k (key y))) xs ≡ xs
  all_kept k [] a = refl
  all_kept k (x ∷ xs) a = at (bytes_eq k (key x)) a.0 (all_kept k xs a.1)
    where
      at : (t : Bool) → t ≡ false → filter (λ (y : X). not (bytes_eq k (key y))) xs ≡ xs
          → cond (not t) (x ∷ filter (λ (y : X). not (bytes_eq k (key y))) xs) (filter (λ (y : X). not (bytes_eq k (key y))) xs) ≡ x ∷ xs
      at true h rest = absurd (cc h)
      at false h rest = ap (λ (l : List X). x ∷ l) rest

  pub first_same : (xs : List X) → IsDistinct bytes_eq (map key xs) → first_of_each key xs ≡ xs
  unfolding IsDistinct
  first_same [] d = refl
  first_same (x ∷ xs) d =
      ap (λ (l : List X). x ∷ filter (λ (y : X). not (bytes_eq (key x) (key y))) l) (first_same xs d.1) ∙ ap (λ (l : List X). x ∷ l) (all_kept (key x) xs d.0)
