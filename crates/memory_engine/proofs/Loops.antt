-- One turn more of a loop over a list.
use Rattle.std.proofs.Common.{◌≡◌, ℕ, ◌+◌, ◌<◌, Bool, true, false, cond, List, [], ◌∷◌, ◌++◌, Option, Some, None, map, length, get_or, take, sym, ap, ◌∙◌}
use Rattle.std.specs.Prelude.{filter, fold}
use Rattle.std.specs.List.{filter_map, cons_option}
use Rattle.std.proofs.lemmas.List.{append-nil, map-append, take_more}
use Rattle.std.proofs.lemmas.List.Elements.{filter_map-append, filter-append}
use Rattle.std.proofs.lemmas.List.Sums.{fold-append}

module _ {X : Type 0} (xs : List X) (i : ℕ) (x : X) (within : i < length xs) (is : x ≡ get_or xs i x) where
  pub taken_more : take (i + 1) xs ≡ take i xs ++ x ∷ []
  taken_more = take_more xs i x within ∙ ap (λ y. take i xs ++ y ∷ []) (sym is)

  pub filter_map-some : {Y : Type 0} (h : X → Option Y) (y : Y) → h x ≡ Some y → filter_map h (take (i + 1) xs) ≡ filter_map h (take i xs) ++ y ∷ []
  filter_map-some h y gives =
      ap (filter_map h) taken_more ∙ filter_map-append h (take i xs) (x ∷ []) ∙ ap (λ o. filter_map h (take i xs) ++ cons_option o []) gives

  pub filter_map-none : {Y : Type 0} (h : X → Option Y) → h x ≡ None → filter_map h (take (i + 1) xs) ≡ filter_map h (take i xs)
  filter_map-none h gives =
      ap (filter_map h) taken_more ∙ filter_map-append h (take i xs) (x ∷ []) ∙ ap (λ o. filter_map h (take i xs) ++ cons_option o []) gives
      ∙ append-nil (filter_map h (take i xs))

  pub fold-filter_map-some : {Y Z : Type 0} (f : Z → Y → Z) (z : Z) (h : X → Option Y) (y : Y) → h x ≡ Some y
      → fold f z (filter_map h (take (i + 1) xs)) ≡ f (fold f z (filter_map h (take i xs))) y
  fold-filter_map-some f z h y gives =
      ap (fold f z) (filter_map-some h y gives) ∙ fold-append f z (filter_map h (take i xs)) (y ∷ [])

  pub map-filter-some : {Y : Type 0} (f : X → Y) (p : X → Bool) → p x ≡ true → map f (filter p (take (i + 1) xs)) ≡ map f (filter p (take i xs)) ++ f x ∷ []
  map-filter-some f p passes =
      ap (λ ys. map f (filter p ys)) taken_more ∙ ap (map f) (filter-append p (take i xs) (x ∷ []))
      ∙ map-append f (filter p (take i xs)) (filter p (x ∷ []))
      ∙ ap (λ b. map f (filter p (take i xs)) ++ map f (cond b (x ∷ []) [])) passes

  pub map-filter-none : {Y : Type 0} (f : X → Y) (p : X → Bool) → p x ≡ false → map f (filter p (take (i + 1) xs)) ≡ map f (filter p (take i xs))
  map-filter-none f p fails =
      ap (λ ys. map f (filter p ys)) taken_more ∙ ap (map f) (filter-append p (take i xs) (x ∷ []))
      ∙ ap (λ b. map f (filter p (take i xs) ++ cond b (x ∷ []) [])) fails ∙ ap (map f) (append-nil (filter p (take i xs)))
