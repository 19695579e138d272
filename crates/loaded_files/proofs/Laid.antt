-- Variables that are laid over others, one after another.
use Rattle.std.proofs.Common.{◌≡◌, ◌∙◌, ℕ, zero, suc, ◌+◌, ◌<◌, ◌≤◌, List, [], ◌∷◌, drop, slice_get, length, Some, None, refl, sym, ap, inl, inr, add-one, arith}
use Rattle.std.proofs.lemmas.Option.{slice_get_cases}
use Rattle.loaded_files.specs.EnvFiles.{with_all}
use Rattle.loaded_files.specs.Paths.{Variables}
use Rattle.tree_base.specs.Entries.{with_entry}

-- the items from a place on begin with the one that stands there
dropped : {X : Type 0} (xs : List X) (i : ℕ) (x : X) → slice_get xs i ≡ Some x → drop i xs ≡ x ∷ drop (suc i) xs
dropped [] i x e = absurd cc
dropped {X} (y ∷ xs) zero x e = let same : y ≡ x = cc in ap (λ (z : X). z ∷ xs) same
dropped (y ∷ xs) (suc i) x e = dropped xs i x e

pub next_item : {X : Type 0} (xs : List X) (i : ℕ) (x : X) → slice_get xs i ≡ Some x → drop i xs ≡ x ∷ drop (i + 1) xs
next_item xs i x e = rw add-one (dropped xs i x e)

-- no item is left past the last
pub none_left : {X : Type 0} (xs : List X) (i : ℕ) → length xs ≤ i → drop i xs ≡ []
none_left [] zero h = refl
none_left [] (suc i) h = refl
none_left (x ∷ xs) zero h = absurd (omega arith)
none_left (x ∷ xs) (suc i) h = none_left xs i (omega arith)

-- the next variable
pub next_laid : (all put more : Variables) (i : ℕ) (name value : List ℕ) → slice_get more i ≡ Some (name, value) → put ≡ with_entry all name value
    → with_all put (drop (i + 1) more) ≡ with_all all (drop i more)
next_laid all put more i name value at e =
    ap (λ (l : Variables). with_all l (drop (i + 1) more)) e ∙ sym (ap (with_all all) (next_item more i (name, value) at))

pub not_past : {X : Type 0} (xs : List X) (i : ℕ) → i < length xs → slice_get xs i ≡ None → ⊥
not_past xs i within none =
    elim (slice_get_cases xs i).1 [
      | inl found ↦ let no : Some found.0 ≡ None = sym found.2 ∙ none in cc
      | inr past ↦ omega (arith, past.0)
    ]
