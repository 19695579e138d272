-- Proofs by the value of a test.
use Rattle.std.proofs.Common.{◌≡◌, Bool, true, false, cond, List, ◌∷◌, ⊎_elim, ap}
use Rattle.std.specs.Prelude.{filter}
use Rattle.std.proofs.lemmas.Bool.{cases_Bool}

-- a proof by the two values of a test
pub by_cases : {P : Type 0} (b : Bool) → (b ≡ true → P) → (b ≡ false → P) → P
by_cases b on_true on_false = ⊎_elim on_true on_false (cases_Bool b)

module _ {X : Type 0} (p : X → Bool) (x : X) (xs : List X) where
  pub filter-yes : p x ≡ true → filter p (x ∷ xs) ≡ x ∷ filter p xs
  filter-yes e = ap (λ (b : Bool). cond b (x ∷ filter p xs) (filter p xs)) e

  pub filter-no : p x ≡ false → filter p (x ∷ xs) ≡ filter p xs
  filter-no e = ap (λ (b : Bool). cond b (x ∷ filter p xs) (filter p xs)) e
