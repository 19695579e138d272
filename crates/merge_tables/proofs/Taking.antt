-- The first of a list, and those behind.
use Rattle.std.proofs.Common.{◌≡◌, ℕ, zero, suc, ◌+◌, ◌≤◌, List, [], ◌∷◌, ◌++◌, drop, take, add-one, length, slice_get, Some, refl, ap, arith}

module _ {X : Type 0} where
  -- one more of the first
  pub take_next : (xs : List X) (i : ℕ) (x : X) → slice_get xs i ≡ Some x → take (i + 1) xs ≡ take i xs ++ x ∷ []
  take_next xs i x e = rw add-one (next xs i x e)
    where
      next : (xs : List X) (i : ℕ) (x : X) → slice_get xs i ≡ Some x → take (suc i) xs ≡ take i xs ++ x ∷ []
      next [] i x e = absurd cc
      next (y ∷ xs) zero x e = let same : y ≡ x = cc in ap (λ (t : X). t ∷ []) same
      next (y ∷ xs) (suc i) x e = ap (λ (l : List X). y ∷ l) (next xs i x e)

  -- the first are all, where there are no more
  pub take_all : (xs : List X) (i : ℕ) → length xs ≤ i → take i xs ≡ xs
  take_all [] zero h = refl
  take_all [] (suc i) h = refl
  take_all (x ∷ xs) zero h = absurd (omega arith)
  take_all (x ∷ xs) (suc i) h = ap (λ (l : List X). x ∷ l) (take_all xs i (omega arith))

  -- and none behind them
  pub none_more : (xs : List X) (i : ℕ) → length xs ≤ i → drop i xs ≡ []
  none_more [] zero h = refl
  none_more [] (suc i) h = refl
  none_more (x ∷ xs) zero h = absurd (omega arith)
  none_more (x ∷ xs) (suc i) h = none_more xs i (omega arith)
