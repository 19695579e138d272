-- What tests of all, of some and of the first element of a list say of each, and the least number among those that pass.
use Rattle.std.proofs.Common.{◌≡◌, ℕ, zero, suc, ◌<◌, Bool, true, false, cond, not, ◌&&◌, ◌||◌, List, [], ◌∷◌, Some, None, refl, sym, ap, ◌∙◌, inl, inr, arith}
use Rattle.std.proofs.lemmas.Bool.{leb-false}
use Rattle.std.specs.List.{list_all, list_any}
use Rattle.std.specs.Prelude.{find, nat_le}
use Rattle.run_model.specs.EngineRules.{Among}

pub both_true : (x y : Bool) → x ≡ true → y ≡ true → (x && y) ≡ true
both_true true y e f = f
both_true false y e f = absurd (cc e)

pub none_of_two : (x y : Bool) → (x || y) ≡ false → (x ≡ false) × (y ≡ false)
none_of_two true y e = absurd (cc e)
none_of_two false y e = (refl, e)

module _ {X : Type 0} where
  pub all_pass : (test : X → Bool) (xs : List X) → ((x : X) → Among xs x → test x ≡ true) → list_all test xs ≡ true
  all_pass test [] each = refl
  all_pass test (x ∷ xs) each = both_true (test x) (list_all test xs) (each x (inl refl)) (all_pass test xs (λ y m. each y (inr m)))

  -- where not all pass, one doesn't
  pub one_fails : (test : X → Bool) (xs : List X) → list_all test xs ≡ false → (x : X) × Among xs x × (test x ≡ false)
  one_fails test [] e = absurd (cc e)
  one_fails test (x ∷ xs) e = at (test x) refl (one_fails test xs) e
    where
      at : (t : Bool) → test x ≡ t → (list_all test xs ≡ false → (y : X) × Among xs y × (test y ≡ false)) → (t && list_all test xs) ≡ false → (y : X) × Among (x ∷ xs) y × (test y ≡ false)
      at true h rest f = let r = rest f in (r.0, inr r.1, r.2)
      at false h rest f = (x, inl refl, h)

  -- where none passes, each fails
  pub each_fails : (test : X → Bool) (xs : List X) (x : X) → list_any test xs ≡ false → Among xs x → test x ≡ false
  each_fails test [] x e m = absurd m
  each_fails test (y ∷ ys) x e (inl h) = ap test h ∙ (none_of_two (test y) (list_any test ys) e).0
  each_fails test (y ∷ ys) x e (inr m) = each_fails test ys x (none_of_two (test y) (list_any test ys) e).1 m

  -- where none is found, each fails
  pub none_found : (test : X → Bool) (xs : List X) (x : X) → find test xs ≡ None → Among xs x → test x ≡ false
  none_found test [] x e m = absurd m
  none_found test (y ∷ ys) x e m = at (test y) refl (none_found test ys x) e m
    where
      at : (t : Bool) → test y ≡ t → (find test ys ≡ None → Among ys x → test x ≡ false) → cond t (Some y) (find test ys) ≡ None → Among (y ∷ ys) x → test x ≡ false
      at true h rest f n = absurd (cc f)
      at false h rest f (inl n) = ap test n ∙ h
      at false h rest f (inr n) = rest f n

  -- what is found is one of the list
  pub found_among : (test : X → Bool) (xs : List X) (x : X) → find test xs ≡ Some x → Among xs x
  found_among test [] x e = absurd (cc e)
  found_among test (y ∷ ys) x e = at (test y) (found_among test ys x) e
    where
      at : (t : Bool) → (find test ys ≡ Some x → Among ys x) → cond t (Some y) (find test ys) ≡ Some x → Among (y ∷ ys) x
      at true rest f = let same : y ≡ x = cc f in inl (sym same)
      at false rest f = inr (rest f)

-- whether a number has the least count of those of a list that pass
abbrev pub is_fewest : (ℕ → Bool) → (ℕ → ℕ) → List ℕ → ℕ → Bool
is_fewest test count xs x = list_all (λ y. not (test y) || nat_le (count x) (count y)) xs

-- where some number passes, one that passes has the least count
pub fewest : (test : ℕ → Bool) (count : ℕ → ℕ) (xs : List ℕ) (n x : ℕ) → count x < n → Among xs x → test x ≡ true → (y : ℕ) × Among xs y × ((test y && is_fewest test count xs y) ≡ true)
fewest test count xs zero x l m e = absurd (omega arith)
fewest test count xs (suc n) x l m e = at (is_fewest test count xs x) refl (λ y k. fewest test count xs n y k)
  where
    less : (t u : Bool) → (not t || u) ≡ false → (t ≡ true) × (u ≡ false)
    less true u h = (refl, h)
    less false u h = absurd (cc h)

    at : (t : Bool) → is_fewest test count xs x ≡ t → ((y : ℕ) → count y < n → Among xs y → test y ≡ true → (z : ℕ) × Among xs z × ((test z && is_fewest test count xs z) ≡ true))
        → (z : ℕ) × Among xs z × ((test z && is_fewest test count xs z) ≡ true)
    at true h rest = (x, m, both_true (test x) (is_fewest test count xs x) e h)
    at false h rest =
        let r = one_fails (λ y. not (test y) || nat_le (count x) (count y)) xs h in
        let q = less (test r.0) (nat_le (count x) (count r.0)) r.2 in
        let k = leb-false (count x) (count r.0) q.1 in
        rest r.0 (omega (arith, l, k)) r.1 q.0
