-- A list from a place on.
use Rattle.std.proofs.Common.{◌≡◌, [], ◌∷◌, ◌+◌, ◌<◌, ℕ, zero, suc, List, length, slice_get, None, Some, add-one, arith, ap, drop}

next : {X : Type 0} (xs : List X) (i : ℕ) (x : X) → slice_get xs i ≡ Some x → drop i xs ≡ x ∷ drop (suc i) xs
next [] i x e = absurd cc
next (y ∷ xs) zero x e = let same : y ≡ x = cc in ap (λ t. t ∷ xs) same
next (y ∷ xs) (suc i) x e = next xs i x e

-- what is left of a list from a place on begins with what stands there
pub drop_next : {X : Type 0} (xs : List X) (i : ℕ) (x : X) → slice_get xs i ≡ Some x → drop i xs ≡ x ∷ drop (i + 1) xs
drop_next xs i x e = rw add-one (next xs i x e)

-- a place within a list has an item
pub missed : {X : Type 0} (xs : List X) (i : ℕ) → None ≡ slice_get xs i → i < length xs → ⊥
missed [] i e h = omega arith
missed (x ∷ xs) zero e h = cc
missed (x ∷ xs) (suc i) e h = missed xs i e (omega arith)
