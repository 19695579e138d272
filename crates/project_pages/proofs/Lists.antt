-- What is made of the first items of a list, and of one more.
use Rattle.std.proofs.Common.{◌≡◌, ◌∙◌, ◌++◌, ◌+◌, ◌<◌, ◌≤◌, ℕ, List, [], ◌∷◌, length, get_or, map, take, sym, ap, subst}
use Rattle.std.specs.List.{All}
use Rattle.std.proofs.lemmas.List.{map-append, take_all, take_more}

-- what holds of all items holds of the one at a place
pub holds_at : {X : Type 0} (P : X → Type 0) (xs : List X) (i : ℕ) (x : X) → All P xs → i < length xs → x ≡ get_or xs i x → P x
holds_at P xs i x all within is = subst P (sym is) (all i x within)

-- what is made of one more item
pub one_made : {X Y : Type 0} (f : X → Y) (xs : List X) (i : ℕ) (x : X) (done : List Y) (y : Y) (new : List Y) → i < length xs → x ≡ get_or xs i x
    → done ≡ map f (take i xs) → y ≡ f x → new ≡ done ++ y ∷ [] → new ≡ map f (take (i + 1) xs)
one_made {X} {Y} f xs i x done y new within is so made e =
    e
    ∙ (λ j. so j ++ made j ∷ [])
    ∙ sym (map-append f (take i xs) (x ∷ []))
    ∙ ap (λ (z : X). map f (take i xs ++ z ∷ [])) is
    ∙ ap (map f) (sym (take_more xs i x within))

-- what is made of all
pub all_made : {X Y : Type 0} (f : X → Y) (xs : List X) (i : ℕ) (done : List Y) → done ≡ map f (take i xs) → length xs ≤ i → done ≡ map f xs
all_made f xs i done so past = so ∙ ap (map f) (take_all i xs past)
