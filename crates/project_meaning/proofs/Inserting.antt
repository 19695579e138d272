-- An element that is put in behind those that stand before it is at its place.
use Rattle.std.proofs.Common.{◌≡◌, ◌+◌, ◌≤◌, ℕ, suc, Bool, true, false, cond, not, List, [], ◌∷◌, ◌++◌, Some, None, length, refl, ap, sym, ◌∙◌, arith, tests}
use Rattle.std.specs.Prelude.{nat_lt}
use Rattle.std.specs.List.{insert, position, position_or_len, prefix_len}
use Rattle.std.proofs.lemmas.List.Sums.{prefix_len-le-length}
use Rattle.tree_base.specs.ByteOrder.{is_before, placed}

module _ {X : Type 0} (key : X → List ℕ) where
  abbrev pub place : X → List X → ℕ
  place x xs = position_or_len (λ y. not (is_before (key y) (key x))) xs

  pub inserted : (x : X) (xs : List X) → insert xs (place x xs) x ≡ placed key x xs
  inserted x [] = refl
  inserted x (y ∷ ys) = at (is_before (key y) (key x)) (inserted x ys)
    where
      at : (b : Bool) → insert ys (place x ys) x ≡ placed key x ys
          → insert (y ∷ ys) (cond (not (not b)) (1 + place x ys) 0) x ≡ cond b (y ∷ placed key x ys) (x ∷ y ∷ ys)
      at true so =
          let n = place x ys in
          let e : 1 + n ≡ suc n = omega arith in
          ap (λ (k : ℕ). insert (y ∷ ys) k x) e ∙ ap (λ l. y ∷ l) so
      at false so = refl

-- the place of the first that passes, or behind all
pub placed_within : {X : Type 0} (p : X → Bool) (xs : List X) → position_or_len p xs ≤ length xs
placed_within p xs = prefix_len-le-length (λ x. not (p x)) xs

pub found_at : {X : Type 0} (p : X → Bool) (xs : List X) (i : ℕ) → position p xs ≡ Some i → i ≡ position_or_len p xs
found_at p xs i e = by (nat_lt (position_or_len p xs) (length xs)) e
  where
    by : (b : Bool) → cond b (Some (position_or_len p xs)) None ≡ Some i → i ≡ position_or_len p xs
    by true f = let same : position_or_len p xs ≡ i = cc f in sym same
    by false f = absurd (cc f)

pub none_found : {X : Type 0} (p : X → Bool) (xs : List X) → position p xs ≡ None → length xs ≡ position_or_len p xs
none_found p xs e = by (nat_lt (position_or_len p xs) (length xs)) refl e
  where
    by : (b : Bool) → nat_lt (position_or_len p xs) (length xs) ≡ b → cond b (Some (position_or_len p xs)) None ≡ None → length xs ≡ position_or_len p xs
    by true g f = absurd (cc f)
    by false g f = let past : length xs ≤ position_or_len p xs = grind (arith, tests) in omega (arith, placed_within p xs)
