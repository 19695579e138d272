-- To sort by a key what a function gives is to sort by the key of what it gives.
use Rattle.std.proofs.Common.{◌≡◌, ℕ, Bool, true, false, cond, List, [], ◌∷◌, map, refl, ap, ◌∙◌}
use Rattle.tree_base.specs.ByteOrder.{by_key, is_before, placed}

module _ {X Y : Type 0} (f : X → Y) (key : Y → List ℕ) where
  -- one more element at its place
  map-placed : (x : X) (xs : List X) → map f (placed (λ e. key (f e)) x xs) ≡ placed key (f x) (map f xs)
  map-placed x [] = refl
  map-placed x (y ∷ ys) = at (is_before (key (f y)) (key (f x))) (map-placed x ys)
    where
      at : (b : Bool) → map f (placed (λ e. key (f e)) x ys) ≡ placed key (f x) (map f ys)
          → map f (cond b (y ∷ placed (λ e. key (f e)) x ys) (x ∷ y ∷ ys)) ≡ cond b (f y ∷ placed key (f x) (map f ys)) (f x ∷ f y ∷ map f ys)
      at true e = ap (λ l. f y ∷ l) e
      at false e = refl

  pub map-by_key : (xs : List X) → map f (by_key (λ e. key (f e)) xs) ≡ by_key key (map f xs)
  map-by_key [] = refl
  map-by_key (x ∷ xs) = map-placed x (by_key (λ e. key (f e)) xs) ∙ ap (placed key (f x)) (map-by_key xs)
