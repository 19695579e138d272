-- Tests over lists.
use Rattle.std.proofs.Common.{◌≡◌, ℕ, ◌+◌, ◌<◌, ◌≤◌, arith, add-one, rules, tests, length, drop, get_or, Bool, true, false, cond, ◌&&◌, ◌||◌, List, [], ◌∷◌, filter, find, Some, refl, ap, sym, ◌∙◌}
use Rattle.std.proofs.Math.Seq.{drop-cons}
use Rattle.std.proofs.lemmas.Grind.{common_steps}
use Rattle.std.specs.List.{list_any}
use Rattle.std.specs.Prelude.{IsTrue, ◌↔◌, ◌==◌}

module _ {X : Type 0} (q p : X → Bool) where
  -- a test of the elements that pass another
  pub any-filter : (xs : List X) → list_any p (filter q xs) ≡ list_any (λ x. q x && p x) xs
  any-filter [] = refl
  any-filter (x ∷ xs) = at (q x) (any-filter xs)
    where
      at : (t : Bool) → list_any p (filter q xs) ≡ list_any (λ y. q y && p y) xs
          → list_any p (cond t (x ∷ filter q xs) (filter q xs)) ≡ ((t && p x) || list_any (λ y. q y && p y) xs)
      at true e = ap (λ b. p x || b) e
      at false e = e

  -- the first of the elements that pass another test
  pub find-filter : (xs : List X) → find p (filter q xs) ≡ find (λ x. q x && p x) xs
  find-filter [] = refl
  find-filter (x ∷ xs) = at (q x) (find-filter xs)
    where
      at : (t : Bool) → find p (filter q xs) ≡ find (λ y. q y && p y) xs
          → find p (cond t (x ∷ filter q xs) (filter q xs)) ≡ cond (t && p x) (Some x) (find (λ y. q y && p y) xs)
      at true e = ap (λ o. cond (p x) (Some x) o) e
      at false e = e

-- a list from a place on
pub drop-next : {X : Type 0} (xs : List X) (i : ℕ) (x : X) → i < length xs → x ≡ get_or xs i x → drop i xs ≡ x ∷ drop (i + 1) xs
drop-next xs i x within is = drop-cons xs i x within ∙ (λ j. sym is j ∷ drop (sym (add-one i) j) xs)

pub drop-none : {X : Type 0} (xs : List X) (i : ℕ) → length xs ≤ i → drop i xs ≡ []
drop-none xs i past = grind (arith, common_steps)

-- a test for an empty list is one of its length
pub empty-length : {X : Type 0} (empty : Bool) (xs : List X) → (IsTrue empty ↔ (xs ≡ [])) → empty ≡ (length xs == 0)
empty-length true [] h = refl
empty-length false [] h = let bad : false ≡ true = h.1 refl in absurd (cc bad)
empty-length true (x ∷ xs) h = let bad : x ∷ xs ≡ [] = h.0 refl in absurd (cc bad)
empty-length false (x ∷ xs) h = search (rules, tests)
