-- One turn more of a loop that puts last what passes.
use Rattle.std.proofs.Common.{◌≡◌, ℕ, zero, suc, ◌+◌, ◌<◌, Bool, true, false, cond, List, [], ◌∷◌, ◌++◌, length, map, take, get_or, slice_get, append_assoc, add-one, refl, sym, ap, ◌∙◌, arith}
use Rattle.std.specs.Prelude.{filter, flat_map, if◌then◌else◌}
use Rattle.std.specs.Option.{option_map_or}
use Rattle.std.proofs.lemmas.Grind.{flat_map-append}
use Rattle.std.proofs.lemmas.List.{append-nil}
use Rattle.plan_core.proofs.Loops.{passed_more, taken_more}

module _ {X : Type 0} (xs : List X) (i : ℕ) (x : X) (within : i < length xs) (is : x ≡ get_or xs i x) where
  pub passed_turn : (p : X → Bool) (b : Bool) (before all after : List X) → all ≡ before ++ filter p (take i xs) → after ≡ all ++ (if b then x ∷ [] else []) → b ≡ p x
      → after ≡ before ++ filter p (take (i + 1) xs)
  passed_turn p b before all after was put same =
      put ∙ ap (λ (ys : List X). ys ++ cond b (x ∷ []) []) was ∙ append_assoc before (filter p (take i xs)) (cond b (x ∷ []) [])
      ∙ ap (λ (ys : List X). before ++ ys) (sym (passed_more xs i x within is p b (sym same)))

  pub joined_turn : {Y : Type 0} (f : X → List Y) (before all after : List Y) → all ≡ before ++ flat_map f (take i xs) → after ≡ all ++ f x → after ≡ before ++ flat_map f (take (i + 1) xs)
  joined_turn {Y} f before all after was put =
      put ∙ ap (λ (ys : List Y). ys ++ f x) was ∙ append_assoc before (flat_map f (take i xs)) (f x)
      ∙ ap (λ (ys : List Y). before ++ (flat_map f (take i xs) ++ ys)) (sym (append-nil (f x)))
      ∙ ap (λ (ys : List Y). before ++ ys) (sym (ap (flat_map f) (taken_more xs i x within is) ∙ flat_map-append f (take i xs) (x ∷ [])))

-- one turn more by places: what is made of the element there, if any
module _ {X Y : Type 0} (f : X → Y) where
  map_next : (xs : List X) (n : ℕ) (y d : Y) → n < length xs → y ≡ option_map_or f (slice_get xs n) d → map f (take n xs) ++ y ∷ [] ≡ map f (take (suc n) xs)
  map_next [] n y d l e = absurd (omega (arith, l))
  map_next (x ∷ xs) zero y d l e = ap (λ (z : Y). z ∷ []) e
  map_next (x ∷ xs) (suc n) y d l e = ap (λ (ys : List Y). f x ∷ ys) (map_next xs n y d (omega (arith, l)) e)

  pub map_at : (xs : List X) (n : ℕ) (y d : Y) (all after : List Y) → n < length xs → all ≡ map f (take n xs) → after ≡ all ++ y ∷ [] → y ≡ option_map_or f (slice_get xs n) d
      → after ≡ map f (take (n + 1) xs)
  map_at xs n y d all after l was put same =
      put ∙ ap (λ (ys : List Y). ys ++ y ∷ []) was ∙ map_next xs n y d l same ∙ ap (λ (k : ℕ). map f (take k xs)) (sym (add-one n))

  kept_next : (p : X → Bool) (xs : List X) (n : ℕ)
      → map f (filter p (take n xs)) ++ option_map_or (λ (x : X). if p x then f x ∷ [] else []) (slice_get xs n) [] ≡ map f (filter p (take (suc n) xs))
  kept_next p [] zero = refl
  kept_next p [] (suc n) = refl
  kept_next p (x ∷ xs) zero = by (p x)
    where
      by : (t : Bool) → cond t (f x ∷ []) [] ≡ map f (cond t (x ∷ []) [])
      by true = refl
      by false = refl
  kept_next p (x ∷ xs) (suc n) = by (p x) (kept_next p xs n)
    where
      rest : List Y
      rest = option_map_or (λ (y : X). if p y then f y ∷ [] else []) (slice_get xs n) []

      by : (t : Bool) → map f (filter p (take n xs)) ++ rest ≡ map f (filter p (take (suc n) xs))
          → map f (cond t (x ∷ filter p (take n xs)) (filter p (take n xs))) ++ rest ≡ map f (cond t (x ∷ filter p (take (suc n) xs)) (filter p (take (suc n) xs)))
      by true h = ap (λ (ys : List Y). f x ∷ ys) h
      by false h = h

  pub kept_at : (p : X → Bool) (xs : List X) (n : ℕ) (all after : List Y) → all ≡ map f (filter p (take n xs))
      → after ≡ all ++ option_map_or (λ (x : X). if p x then f x ∷ [] else []) (slice_get xs n) [] → after ≡ map f (filter p (take (n + 1) xs))
  kept_at p xs n all after was put =
      put ∙ ap (λ (ys : List Y). ys ++ option_map_or (λ (x : X). if p x then f x ∷ [] else []) (slice_get xs n) []) was
      ∙ kept_next p xs n ∙ ap (λ (k : ℕ). map f (filter p (take k xs))) (sym (add-one n))
