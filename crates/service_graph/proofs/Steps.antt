-- Ways that are taken step by step, and the first of them that closes.
use Rattle.std.proofs.Common.{◌≡◌, ℕ, zero, suc, Bool, false, List, [], ◌∷◌, ◌++◌, None, map, refl, ap, sym, ◌∙◌}
use Rattle.std.specs.Prelude.{◌||◌, Option, find, flat_map, unwrap_or}
use Rattle.std.specs.List.{last_or, list_any}
use Rattle.std.specs.Option.{option_or}
use Rattle.std.proofs.lemmas.Grind.{flat_map-append}
use Rattle.std.proofs.lemmas.List.Folds.{find-append}
use Rattle.service_graph.proofs.Lists.{any-flat_map, any-map, any-same, last_behind, none_found, none_passes, or_false}

module _ {X : Type 0} (other : X) (next : X → List X) (closing : X → Bool) where
  abbrev pub last : List X → X
  last way = unwrap_or (last_or None way) other

  abbrev pub steps : List X → List (List X)
  steps way = map (λ x. way ++ x ∷ []) (next (last way))

  -- ways, so many steps further
  abbrev pub on : ℕ → List (List X) → List (List X)
  on zero ways = ways
  on (suc count) ways = on count (flat_map steps ways)

  -- a way of so many steps closes behind one
  abbrev pub back : ℕ → X → Bool
  back zero x = closing x
  back (suc count) x = list_any (back count) (next x)

  abbrev pub closes : List X → Bool
  closes way = closing (last way)

  -- the first that closes of so many more steps
  abbrev pub found : ℕ → List (List X) → Option (List X)
  found count ways = find closes (on count ways)

  pub last_step : (way : List X) (x : X) → last (way ++ x ∷ []) ≡ x
  last_step way x = ap (λ o. unwrap_or o other) (last_behind None way x)

  any_step : (p : X → Bool) (way : List X) → list_any (λ w. p (last w)) (steps way) ≡ list_any p (next (last way))
  any_step p way =
      any-map (λ w. p (last w)) (λ x. way ++ x ∷ []) (next (last way))
      ∙ any-same (λ x. p (last (way ++ x ∷ []))) p (next (last way)) (λ x. ap p (last_step way x))

  -- whether ways close in so many more steps is told by their last ones
  pub any_on : (count : ℕ) (ways : List (List X)) → list_any closes (on count ways) ≡ list_any (λ way. back count (last way)) ways
  any_on zero ways = refl
  any_on (suc count) ways =
      any_on count (flat_map steps ways)
      ∙ any-flat_map (λ way. back count (last way)) steps ways
      ∙ any-same (λ way. list_any (λ w. back count (last w)) (steps way)) (λ way. back (suc count) (last way)) ways (λ way. any_step (back count) way)

  pub on-append : (count : ℕ) (xs ys : List (List X)) → on count (xs ++ ys) ≡ on count xs ++ on count ys
  on-append zero xs ys = refl
  on-append (suc count) xs ys = ap (on count) (flat_map-append steps xs ys) ∙ on-append count (flat_map steps xs) (flat_map steps ys)

  pub on-nil : (count : ℕ) → on count [] ≡ []
  on-nil zero = refl
  on-nil (suc count) = on-nil count

  pub found-cons : (count : ℕ) (way : List X) (ways : List (List X)) → found count (way ∷ ways) ≡ option_or (found count (way ∷ [])) (found count ways)
  found-cons count way ways = ap (find closes) (on-append count (way ∷ []) ways) ∙ find-append closes (on count (way ∷ [])) (on count ways)

  pub alone : (count : ℕ) (way : List X) → back count (last way) ≡ false → found count (way ∷ []) ≡ None
  alone count way e = none_found closes (on count (way ∷ [])) (any_on count (way ∷ []) ∙ ap (λ b. b || false) e)

  pub not_back : (count : ℕ) (ways : List (List X)) → found count ways ≡ None → list_any (λ way. back count (last way)) ways ≡ false
  not_back count ways e = sym (any_on count ways) ∙ none_passes closes (on count ways) e

  pub ends : (count : ℕ) (way : List X) → found count (way ∷ []) ≡ None → back count (last way) ≡ false
  ends count way e = or_false (back count (last way)) (not_back count (way ∷ []) e)
