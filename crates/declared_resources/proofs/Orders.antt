-- What is made of items in order stands in order.
use Rattle.std.proofs.Common.{◌≡◌, ℕ, zero, suc, List, [], ◌∷◌, Some, map, refl, slice_get, subst, sym, true}
use Rattle.tree_base.specs.ByteOrder.{IsAscending, is_before}

module _ {X Y : Type 0} (make : X → Y) where
  -- what stands at a place is made of what stands there
  made_at : (xs : List X) (i : ℕ) (y : Y) → slice_get (map make xs) i ≡ Some y → (x : X) × (slice_get xs i ≡ Some x) × (y ≡ make x)
  made_at [] i y e = absurd (cc e)
  made_at (x ∷ xs) zero y e = (x, refl, let same : make x ≡ y = cc e in sym same)
  made_at (x ∷ xs) (suc i) y e = made_at xs i y e

  pub ascending_made : (name : X → List ℕ) (known : Y → List ℕ) → ((x : X) → name x ≡ known (make x)) → (xs : List X)
      → IsAscending (λ x y. is_before (name x) (name y)) xs → IsAscending (λ x y. is_before (known x) (known y)) (map make xs)
  ascending_made name known same xs ascends i j x y l e f =
      let first = made_at xs i x e in
      let second = made_at xs j y f in
      subst (λ (z : Y). is_before (known z) (known y) ≡ true) (sym first.2)
      (subst (λ (z : Y). is_before (known (make first.0)) (known z) ≡ true) (sym second.2)
      (subst (λ (t : List ℕ). is_before t (known (make second.0)) ≡ true) (same first.0)
      (subst (λ (t : List ℕ). is_before (name first.0) t ≡ true) (same second.0)
      (ascends i j first.0 second.0 l first.1 second.1))))
