-- Texts and lists in the byte order of texts.
use Rattle.std.specs.Prelude.{◌≡◌, ◌<◌, ℕ, Bool, true, not, if◌then◌else◌, List, [], ◌∷◌, Option, Some, None, filter, slice_get}
use Rattle.std.specs.Ordering.{nat_cmp, is_lt}
use Rattle.std.specs.Str.{bytes_eq}
use Rattle.std.specs.Cmp.Lexicographic.{slice_cmp}

-- whether a text stands before another in byte order
abbrev pub is_before : List ℕ → List ℕ → Bool
is_before s t = is_lt (slice_cmp nat_cmp s t)

-- a list in byte order of its keys, with one more element at its place: before the first whose key isn't less
abbrev pub placed : {X : Type 0} → (X → List ℕ) → X → List X → List X
placed key x [] = x ∷ []
placed key x (y ∷ ys) = if is_before (key y) (key x) then y ∷ placed key x ys else x ∷ y ∷ ys

-- the elements in byte order of their keys
abbrev pub by_key : {X : Type 0} → (X → List ℕ) → List X → List X
by_key key [] = []
by_key key (x ∷ xs) = placed key x (by_key key xs)

-- the element with the least key, and the first of those
abbrev pub least_by : {X : Type 0} → (X → List ℕ) → List X → Option X
least_by key [] = None
least_by {X} key (x ∷ xs) = or_this (least_by key xs)
  where
    or_this : Option X → Option X
    or_this None = Some x
    or_this (Some y) = if is_before (key y) (key x) then Some y else Some x

-- the elements whose key no earlier one has
abbrev pub first_of_each : {X : Type 0} → (X → List ℕ) → List X → List X
first_of_each key [] = []
first_of_each key (x ∷ xs) = x ∷ filter (λ y. not (bytes_eq (key x) (key y))) (first_of_each key xs)

-- each element stands before all later ones
abbrev pub IsAscending : {X : Type 0} → (X → X → Bool) → List X → Type 0
IsAscending {X} before xs = (i j : ℕ) (x y : X) → i < j → slice_get xs i ≡ Some x → slice_get xs j ≡ Some y → before x y ≡ true
