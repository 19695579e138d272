-- Names with their values, and the entries that they are of.
use Rattle.std.proofs.Common.{◌≡◌, ◌∙◌, ◌<◌, ◌+◌, ℕ, zero, suc, List, [], ◌∷◌, ◌++◌, Option, Some, None, add-one, ap, arith, length, map, refl, slice_get, sym, take}
use Rattle.std.specs.Map.{keys_of}
use Rattle.std.proofs.Math.Seq.{take-suc}
use Rattle.std.proofs.lemmas.List.{map-append}
use Rattle.std.proofs.lemmas.Option.{get_or_from_slice_get, slice_get_within}
use Rattle.tree_base.specs.declared.place.Var.{Var}
use Rattle.declared_resources.specs.Resources.{any_variables, label_entry, variable_of}

-- there is an item at each place of a list
pub not_past : {X : Type 0} (xs : List X) (i : ℕ) → i < length xs → slice_get xs i ≡ None → ⊥
not_past [] i within e = absurd (omega arith)
not_past (x ∷ xs) zero within e = absurd (cc e)
not_past (x ∷ xs) (suc i) within e = not_past xs i (omega arith) e

module _ (es : List (List ℕ × List ℕ)) (i : ℕ) (p : List ℕ × List ℕ) (at : slice_get es i ≡ Some p) where
  taken : take (i + 1) es ≡ take i es ++ p ∷ []
  taken = rw (add-one, take-suc es i p (slice_get_within es i p at), get_or_from_slice_get es i p p at) refl

  -- one more variable
  pub one_more : (done new : List Var) → done ≡ map variable_of (take i es) → new ≡ done ++ variable_of p ∷ [] → new ≡ map variable_of (take (i + 1) es)
  one_more done new so e = e ∙ ap (λ (l : List Var). l ++ variable_of p ∷ []) so ∙ sym (map-append variable_of (take i es) (p ∷ [])) ∙ ap (map variable_of) (sym taken)

-- the names are the keys
pub names_are : (es : List (List ℕ × List ℕ)) → map (λ (v : Var). v.name) (map variable_of es) ≡ keys_of es
names_are [] = refl
names_are (e ∷ es) = ap (λ (l : List (List ℕ)). e.0 ∷ l) (names_are es)

-- pairs that are there
pub any_some : (pairs : List (List ℕ × Option (List ℕ))) (variables : List Var) → (pairs ≡ [] → ⊥) → variables ≡ map variable_of (map label_entry pairs) → Some variables ≡ any_variables pairs
any_some [] variables some e = absurd (some refl)
any_some (pair ∷ pairs) variables some e = ap Some e
