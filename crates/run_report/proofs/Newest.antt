-- A journal with one entry more, newest entry first.
use Rattle.std.proofs.Common.{◌≡◌, ℕ, ◌+◌, ◌<◌, List, [], ◌∷◌, ◌++◌, length, get_or, take, sym, ap, ◌∙◌}
use Rattle.std.specs.Prelude.{reverse}
use Rattle.std.proofs.lemmas.List.{take_more, reverse-append}

module _ {X : Type 0} (xs : List X) (i : ℕ) (x : X) (within : i < length xs) (is : x ≡ get_or xs i x) where
  pub taken_more : take (i + 1) xs ≡ take i xs ++ x ∷ []
  taken_more = take_more xs i x within ∙ ap (λ y. take i xs ++ y ∷ []) (sym is)

  pub newest : reverse (take (i + 1) xs) ≡ x ∷ reverse (take i xs)
  newest = ap reverse taken_more ∙ reverse-append (take i xs) (x ∷ [])
