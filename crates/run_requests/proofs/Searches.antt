-- What searches through lists find.
use Rattle.std.proofs.Common.{◌≡◌, ℕ, zero, suc, ◌<◌, Bool, true, false, cond, List, [], ◌∷◌, length, Option, Some, None, slice_get, refl, sym, ap, ◌∙◌, inl, inr, arith}
use Rattle.std.specs.Option.{option_or}
use Rattle.std.specs.Prelude.{find}
use Rattle.engine_types.specs.declared.SeenFault.{SeenFault}
use Rattle.run_model.specs.EngineRules.{Among}
use Rattle.run_model.specs.Observation.{first_in}

module _ {X : Type 0} where
  -- where some element passes, one is found
  pub find_some : (p : X → Bool) (xs : List X) (x : X) → Among xs x → p x ≡ true → (y : X) × (find p xs ≡ Some y)
  find_some p [] x m e = absurd m
  find_some p (z ∷ zs) x m e = at (p z) refl m (λ n. find_some p zs x n e)
    where
      at : (t : Bool) → p z ≡ t → Among (z ∷ zs) x → (Among zs x → (y : X) × (find p zs ≡ Some y)) → (y : X) × (cond t (Some z) (find p zs) ≡ Some y)
      at true h n rest = (z, refl)
      at false h (inl s) rest = let bad : true ≡ false = sym e ∙ (ap p s ∙ h) in absurd (cc bad)
      at false h (inr n) rest = rest n

  -- what is found passes, and is one of the list
  pub find_passes : (p : X → Bool) (xs : List X) (x : X) → find p xs ≡ Some x → (p x ≡ true) × Among xs x
  find_passes p [] x e = absurd (cc e)
  find_passes p (y ∷ ys) x e = at (p y) refl e (find_passes p ys x)
    where
      at : (t : Bool) → p y ≡ t → cond t (Some y) (find p ys) ≡ Some x → (find p ys ≡ Some x → (p x ≡ true) × Among ys x) → (p x ≡ true) × Among (y ∷ ys) x
      at true h f rest = let same : y ≡ x = cc f in (rw (← same) h, inl (sym same))
      at false h f rest = let r = rest f in (r.0, inr r.1)

  -- there is an element at each place below the length
  pub some_below : (xs : List X) (i : ℕ) → i < length xs → (x : X) × (slice_get xs i ≡ Some x)
  some_below [] i l = absurd (omega arith)
  some_below (x ∷ xs) zero l = (x, refl)
  some_below (x ∷ xs) (suc i) l = some_below xs i (omega arith)

  -- where there is no first fault, no element has one
  pub none_first : (fault : X → Option SeenFault) (xs : List X) (x : X) → first_in fault xs ≡ None → Among xs x → fault x ≡ None
  none_first fault [] x e m = absurd m
  none_first fault (y ∷ ys) x e m = at (fault y) refl e m (none_first fault ys x)
    where
      at : (o : Option SeenFault) → fault y ≡ o → option_or o (first_in fault ys) ≡ None → Among (y ∷ ys) x → (first_in fault ys ≡ None → Among ys x → fault x ≡ None) → fault x ≡ None
      at (Some bad) h g n rest = absurd (cc g)
      at None h g (inl s) rest = ap fault s ∙ h
      at None h g (inr n) rest = rest g n

pub first_none : (o p : Option SeenFault) → option_or o p ≡ None → o ≡ None
first_none None p e = refl
first_none (Some x) p e = absurd (cc e)
