-- The first elements of each key, one element further.
use Rattle.std.proofs.Common.{◌≡◌, ℕ, Bool, true, false, cond, not, ◌||◌, List, [], ◌∷◌, ◌++◌, map, filter, refl, ap, sym, ◌∙◌}
use Rattle.std.proofs.lemmas.List.{append-nil}
use Rattle.std.proofs.lemmas.List.Elements.{filter-append}
use Rattle.std.proofs.lemmas.Map.Views.{any-filter_same}
use Rattle.std.proofs.lemmas.Slice.Eq.{bytes_eq-Decides}
use Rattle.std.specs.List.{list_any}
use Rattle.std.specs.Str.{bytes_eq}
use Rattle.tree_base.specs.ByteOrder.{first_of_each}

-- texts are compared from either side
pub flipped : (s t : List ℕ) (b : Bool) → bytes_eq s t ≡ b → bytes_eq t s ≡ b
flipped s t true e = (bytes_eq-Decides t s).1 (sym ((bytes_eq-Decides s t).0 e))
flipped s t false e = at (bytes_eq t s) refl
  where
    at : (b : Bool) → bytes_eq t s ≡ b → bytes_eq t s ≡ false
    at true f = let bad : true ≡ false = sym ((bytes_eq-Decides s t).1 (sym ((bytes_eq-Decides t s).0 f))) ∙ e in absurd (cc bad)
    at false f = f

module _ {X : Type 0} (key : X → List ℕ) where
  -- whether an element has this key
  abbrev pub has : List ℕ → List X → Bool
  has k xs = list_any (λ x. bytes_eq k (key x)) xs

  -- the elements with one more, unless its key is there
  abbrev pub with_new : List X → X → List X
  with_new firsts x = cond (has (key x) firsts) firsts (firsts ++ x ∷ [])

  -- the elements that have another key
  abbrev others : X → X → Bool
  others y z = not (bytes_eq (key y) (key z))

  same_out : (x y : X) → bytes_eq (key x) (key y) ≡ true → others y x ≡ false
  same_out x y e = ap not (flipped (key x) (key y) true e)

  other_in : (x y : X) → bytes_eq (key x) (key y) ≡ false → others y x ≡ true
  other_in x y e = ap not (flipped (key x) (key y) false e)

  more_out : (x y : X) (l : List X) → others y x ≡ false → filter (others y) (l ++ x ∷ []) ≡ filter (others y) l
  more_out x y l e = filter-append (others y) l (x ∷ []) ∙ ap (λ b. filter (others y) l ++ cond b (x ∷ []) []) e ∙ append-nil (filter (others y) l)

  more_in : (x y : X) (l : List X) → others y x ≡ true → filter (others y) (l ++ x ∷ []) ≡ filter (others y) l ++ x ∷ []
  more_in x y l e = filter-append (others y) l (x ∷ []) ∙ ap (λ b. filter (others y) l ++ cond b (x ∷ []) []) e

  has_still : (x y : X) (l : List X) → bytes_eq (key x) (key y) ≡ false → has (key x) (filter (others y) l) ≡ has (key x) l
  has_still x y l e = any-filter_same (λ (z : X). bytes_eq (key x) (key z)) (others y) true
      (λ z m. let one : key x ≡ key z = (bytes_eq-Decides (key x) (key z)).0 m in ap not (ap (bytes_eq (key y)) (sym one) ∙ flipped (key x) (key y) false e)) l

  after : (x y : X) (l : List X) (t u : Bool) → bytes_eq (key x) (key y) ≡ t → has (key x) l ≡ u
      → (y ∷ filter (others y) (cond u l (l ++ x ∷ []))) ≡ cond (t || has (key x) (filter (others y) l)) (y ∷ filter (others y) l) (y ∷ filter (others y) l ++ x ∷ [])
  after x y l true true e f = refl
  after x y l true false e f = ap (λ m. y ∷ m) (more_out x y l (same_out x y e))
  after x y l false true e f = sym (ap (λ b. cond b (y ∷ filter (others y) l) (y ∷ filter (others y) l ++ x ∷ [])) (has_still x y l e ∙ f))
  after x y l false false e f =
      ap (λ m. y ∷ m) (more_in x y l (other_in x y e)) ∙ sym (ap (λ b. cond b (y ∷ filter (others y) l) (y ∷ filter (others y) l ++ x ∷ [])) (has_still x y l e ∙ f))

  pub firsts-more : (xs : List X) (x : X) → first_of_each key (xs ++ x ∷ []) ≡ with_new (first_of_each key xs) x
  firsts-more [] x = refl
  firsts-more (y ∷ ys) x =
      ap (λ l. y ∷ filter (others y) l) (firsts-more ys x) ∙ after x y (first_of_each key ys) (bytes_eq (key x) (key y)) (has (key x) (first_of_each key ys)) refl refl

  pub any-map : (k : List ℕ) (xs : List X) → list_any (bytes_eq k) (map key xs) ≡ has k xs
  any-map k [] = refl
  any-map k (x ∷ xs) = ap (λ b. bytes_eq k (key x) || b) (any-map k xs)
