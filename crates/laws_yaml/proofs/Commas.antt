-- Parts with a comma between each two.
use Rattle.std.proofs.Common.{◌≡◌, ℕ, List, [], ◌∷◌, ◌++◌, flat_map, refl, sym, ap, append-nil}
use Rattle.project_print.specs.Json.{listed}

-- a part behind another: a comma before it
abbrev pub behind_comma : List ℕ → List ℕ
behind_comma part = 44 ∷ part

-- parts with a comma between each two
abbrev pub joined : List (List ℕ) → List ℕ
joined [] = []
joined (part ∷ parts) = part ++ flat_map behind_comma parts

listed_more : (p : List ℕ) (ps : List (List ℕ)) → listed (p ∷ ps) ≡ p ++ flat_map behind_comma ps
listed_more p [] = sym (append-nil p)
listed_more p (q ∷ qs) = ap (λ l. p ++ 44 ∷ l) (listed_more q qs)

-- the members of an object and the items of an array stand so
pub listed_is : (ps : List (List ℕ)) → listed ps ≡ joined ps
listed_is [] = refl
listed_is (p ∷ ps) = listed_more p ps
