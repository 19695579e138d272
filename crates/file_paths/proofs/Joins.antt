-- Paths in the text, part by part.
use Rattle.std.proofs.Common.{◌≡◌, ℕ, true, ◌+◌, ◌<◌, List, [], ◌∷◌, length, take, map, fold, get_or, refl}
use Rattle.std.specs.Prelude.{nat_eq, codes}
use Rattle.std.specs.List.{starts_with}
use Rattle.std.proofs.lemmas.List.{take-map, take_more, map-append}
use Rattle.std.proofs.lemmas.List.Sums.{fold-append}
use Rattle.file_paths.specs.Paths.{joined, parts_of, path_through}

pub fold_more_of : {X Y Z : Type 0} (f : Z → Y → Z) (z : Z) (view : X → Y) (xs : List X) (i : ℕ) (d : X) → i < length xs
    → fold f z (take (i + 1) (map view xs)) ≡ f (fold f z (take i (map view xs))) (view (get_or xs i d))
fold_more_of f z view xs i d within =
    rw (take-map view (i + 1) xs, take_more xs i d within, map-append view (take i xs) (get_or xs i d ∷ []), ← take-map view i xs, fold-append f z (take i (map view xs)) (view (get_or xs i d) ∷ [])) refl

-- a path from the root
pub from_root : (directory text : List ℕ) → starts_with nat_eq text (codes "/") ≡ true → joined directory text ≡ path_through (parts_of text)
from_root directory text h = rw h refl
