-- One turn more of a loop over a list.
use Rattle.std.proofs.Common.{◌≡◌, ℕ, zero, suc, ◌+◌, ◌<◌, Bool, false, cond, List, [], ◌∷◌, ◌++◌, map, Option, Some, None, slice_get, unwrap_or, length, get_or, take, refl, sym, ap, ◌∙◌}
use Rattle.std.specs.Prelude.{filter}
use Rattle.std.specs.Option.{option_map, option_map_or}
use Rattle.std.proofs.lemmas.List.{map-append, take_more}
use Rattle.std.proofs.lemmas.List.Elements.{filter-append}
use Rattle.std.proofs.lemmas.Option.{slice_get-get_or}
use Rattle.run_model.specs.Numbers.{numbers_from}
use Rattle.plan_core.proofs.Rows.{numbers_more}

pub slice_get-map : {X Y : Type 0} (f : X → Y) (xs : List X) (i : ℕ) → slice_get (map f xs) i ≡ option_map f (slice_get xs i)
slice_get-map f [] i = refl
slice_get-map f (x ∷ xs) zero = refl
slice_get-map f (x ∷ xs) (suc i) = slice_get-map f xs i

-- a text that was made of an element is that of the element
pub text_of : {X : Type 0} (f : X → List ℕ) (xs : List X) (i : ℕ) → unwrap_or (slice_get (map f xs) i) [] ≡ option_map_or f (slice_get xs i) []
text_of {X} f xs i = ap (λ (o : Option (List ℕ)). unwrap_or o []) (slice_get-map f xs i) ∙ at (slice_get xs i)
  where
    at : (o : Option X) → unwrap_or (option_map f o) [] ≡ option_map_or f o []
    at None = refl
    at (Some x) = refl

-- a flag that was made of an element is that of the element
pub flag_of : {X : Type 0} (f : X → Bool) (xs : List X) (i : ℕ) → unwrap_or (slice_get (map f xs) i) false ≡ option_map_or f (slice_get xs i) false
flag_of {X} f xs i = ap (λ (o : Option Bool). unwrap_or o false) (slice_get-map f xs i) ∙ at (slice_get xs i)
  where
    at : (o : Option X) → unwrap_or (option_map f o) false ≡ option_map_or f o false
    at None = refl
    at (Some x) = refl

pub length-mapped : {X Y : Type 0} (f : X → Y) (xs : List X) → length (map f xs) ≡ length xs
length-mapped f [] = refl
length-mapped f (x ∷ xs) = ap suc (length-mapped f xs)

pub mapped_itself : {X : Type 0} (xs : List X) → map (λ x. x) xs ≡ xs
mapped_itself [] = refl
mapped_itself (x ∷ xs) = ap (λ (ys : List _). x ∷ ys) (mapped_itself xs)

-- no element passes
pub filter-none : {X : Type 0} (p : X → Bool) → ((x : X) → p x ≡ false) → (xs : List X) → filter p xs ≡ []
filter-none p none [] = refl
filter-none p none (x ∷ xs) = ap (λ (b : Bool). cond b (x ∷ filter p xs) (filter p xs)) (none x) ∙ filter-none p none xs

-- the numbers that pass, with one more
pub numbers_passed : (p : ℕ → Bool) (b : Bool) (n : ℕ) → p n ≡ b → filter p (numbers_from 0 (n + 1)) ≡ filter p (numbers_from 0 n) ++ cond b (n ∷ []) []
numbers_passed p b n e =
    ap (filter p) (numbers_more n) ∙ filter-append p (numbers_from 0 n) (n ∷ []) ∙ ap (λ (t : Bool). filter p (numbers_from 0 n) ++ cond t (n ∷ []) []) e

module _ {X : Type 0} (xs : List X) (i : ℕ) (x : X) (within : i < length xs) (is : x ≡ get_or xs i x) where
  pub taken_more : take (i + 1) xs ≡ take i xs ++ x ∷ []
  taken_more = take_more xs i x within ∙ ap (λ (y : X). take i xs ++ y ∷ []) (sym is)

  pub passed_more : (p : X → Bool) (b : Bool) → p x ≡ b → filter p (take (i + 1) xs) ≡ filter p (take i xs) ++ cond b (x ∷ []) []
  passed_more p b e =
      ap (filter p) taken_more ∙ filter-append p (take i xs) (x ∷ []) ∙ ap (λ (t : Bool). filter p (take i xs) ++ cond t (x ∷ []) []) e

  pub mapped_more : {Y : Type 0} (f : X → Y) → map f (take (i + 1) xs) ≡ map f (take i xs) ++ f x ∷ []
  mapped_more f = ap (map f) taken_more ∙ map-append f (take i xs) (x ∷ [])

-- an element that is there is the same whatever stands for one that isn't
pub get_or_same : {X : Type 0} (xs : List X) (i : ℕ) (x y : X) → i < length xs → get_or xs i x ≡ get_or xs i y
get_or_same xs i x y h = let e = sym (slice_get-get_or xs i x h) ∙ slice_get-get_or xs i y h in cc e
