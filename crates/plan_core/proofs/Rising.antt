-- Of numbers that rise and hold all that pass, those are left that pass.
use Rattle.std.proofs.Common.{◌≡◌, ℕ, zero, suc, ◌+◌, ◌<◌, ◌≤◌, Bool, true, false, cond, List, [], ◌∷◌, length, Some, get_or, refl, sym, ap, ◌∙◌, subst, inl, inr, arith, ⊎_elim, add-one}
use Rattle.std.specs.Prelude.{filter}
use Rattle.std.specs.List.{Contains}
use Rattle.std.specs.List.Sorted.{IsStrictlyIncreasing}
use Rattle.std.proofs.lemmas.Bool.{cases_lt}
use Rattle.std.proofs.lemmas.Option.{slice_get-get_or, slice_get_within, get_or_from_slice_get}
use Rattle.run_model.specs.EngineRules.{Among}
use Rattle.run_model.specs.Numbers.{numbers_from}
use Rattle.run_model.proofs.DistinctLists.{at_place, from_place}
use Rattle.plan_core.proofs.Splits.{by_cases, filter-no}

-- each number is greater than the one before it, and the first is at least this one
abbrev pub Rises : ℕ → List ℕ → Type 0
Rises i [] = Unit {0}
Rises i (x ∷ xs) = (i ≤ x) × Rises (x + 1) xs

above : (i : ℕ) (xs : List ℕ) (b : ℕ) → Rises i xs → Among xs b → i ≤ b
above i [] b r m = absurd m
above i (x ∷ xs) b r (inl e) = let first = r.0 in omega (arith, e, first)
above i (x ∷ xs) b r (inr m) = let first = r.0 in let rest = above (x + 1) xs b r.1 m in omega (arith, first, rest)

module _ (p : ℕ → Bool) where
  none_pass : (i : ℕ) (xs : List ℕ) → Rises i xs → ((b : ℕ) → i ≤ b → p b ≡ false) → filter p xs ≡ []
  none_pass i [] r none = refl
  none_pass i (x ∷ xs) r none =
      let first = r.0 in
      filter-no p x xs (none x (omega (arith, first))) ∙ none_pass (x + 1) xs r.1 (λ b h. none b (omega (arith, first, h)))

  -- all that pass from one number on are among others
  abbrev Holds : ℕ → List ℕ → Type 0
  Holds i xs = (b : ℕ) → i ≤ b → p b ≡ true → Among xs b

  module _ (i n x : ℕ) (xs : List ℕ) (r : Rises i (x ∷ xs)) (all : Holds i (x ∷ xs))
      (again : (ys : List ℕ) → Rises (i + 1) ys → Holds (i + 1) ys → filter p ys ≡ filter p (numbers_from (i + 1) n)) where
    dropped : i < x → p i ≡ false
    dropped h = by_cases (p i)
        (λ t. let low = above (i + 1) (x ∷ xs) i (omega (arith, h), r.1) (all i (omega arith) t) in absurd (omega (arith, low)))
        (λ f. f)

    later : i < x → filter p (x ∷ xs) ≡ filter p (numbers_from i (suc n))
    later h =
        again (x ∷ xs) (omega (arith, h), r.1) (λ b k t. all b (omega (arith, k)) t) ∙ sym (filter-no p i (numbers_from (i + 1) n) (dropped h))

    rest : x ≡ i → Holds (i + 1) xs
    rest same b h t = at (all b (omega (arith, h)) t)
      where
        at : Among (x ∷ xs) b → Among xs b
        at (inl e) = absurd (omega (arith, e, h, same))
        at (inr m) = m

    here : x ≤ i → filter p (x ∷ xs) ≡ filter p (numbers_from i (suc n))
    here h =
        let first = r.0 in
        let same : x ≡ i = omega (arith, first, h) in
        let tail = again xs (subst (λ (k : ℕ). Rises (k + 1) xs) same r.1) (rest same) in
        ap (λ (ys : List ℕ). cond (p x) (x ∷ ys) ys) tail ∙ ap (λ (k : ℕ). filter p (k ∷ numbers_from (i + 1) n)) same

    step : filter p (x ∷ xs) ≡ filter p (numbers_from i (suc n))
    step = ⊎_elim later here (cases_lt i x)

  pub all_that_pass : (n i : ℕ) (xs : List ℕ) → Rises i xs → Holds i xs → ((b : ℕ) → i + n ≤ b → p b ≡ false) → filter p xs ≡ filter p (numbers_from i n)
  all_that_pass zero i xs r all none = none_pass i xs r (λ b h. none b (omega (arith, h)))
  all_that_pass (suc n) i [] r all none =
      by_cases (p i)
      (λ t. absurd (all i (omega arith) t))
      (λ f. all_that_pass n (i + 1) [] tt (λ b h t. all b (omega (arith, h)) t) (λ b h. none b (omega (arith, h))) ∙ sym (filter-no p i (numbers_from (i + 1) n) f))
  all_that_pass (suc n) i (x ∷ xs) r all none = step i n x xs r all (λ ys s holds. all_that_pass n (i + 1) ys s holds (λ b h. none b (omega (arith, h))))

-- numbers that rise in std's words
pub rises_from : (xs : List ℕ) (i : ℕ) → (0 < length xs → i ≤ get_or xs 0 0) → IsStrictlyIncreasing xs → Rises i xs
rises_from [] i first up = tt
rises_from (x ∷ xs) i first up = (
  first (omega arith),
  rises_from xs (x + 1)
      (λ h. let step = up 0 (omega (arith, h)) in omega (arith, step))
      (λ k h. let step = subst (λ (j : ℕ). get_or (x ∷ xs) (k + 1) 0 < get_or (x ∷ xs) j 0) (add-one (k + 1)) (up (k + 1) (omega (arith, h))) in
      subst (λ (j : ℕ). get_or (x ∷ xs) j 0 < get_or xs (k + 1) 0) (add-one k) step),
)

-- an element in std's words
pub contains_among : {X : Type 0} (xs : List X) (x : X) → Among xs x → Contains xs x
contains_among xs x m =
    let r = at_place xs x m in
    (r.0, slice_get_within xs r.0 x r.1, get_or_from_slice_get xs r.0 x x r.1)

pub among_contains : {X : Type 0} (xs : List X) (x : X) → Contains xs x → Among xs x
among_contains xs x c = from_place xs c.0 x (slice_get-get_or xs c.0 x c.1 ∙ ap Some c.2)
