-- Ranks that are kept below the number of places.
use Rattle.std.proofs.Common.{◌≡◌, ℕ, zero, suc, ◌+◌, ◌<◌, ◌≤◌, cond, ltb, List, [], ◌∷◌, length, refl, ap, subst, inl, inr, arith}
use Rattle.std.proofs.lemmas.Bool.Decides.{nat_tests}
use Rattle.run_model.specs.EngineRules.{Among}
use Rattle.run_model.specs.Numbers.{numbers_from}

-- how many of the places have a rank below this one
abbrev pub below : (ℕ → ℕ) → List ℕ → ℕ → ℕ
below rank [] r = 0
below rank (b ∷ bs) r = cond (ltb (rank b) r) (below rank bs r + 1) (below rank bs r)

step_more : (x r q m n : ℕ) → r ≤ q → m ≤ n → cond (ltb x r) (m + 1) m ≤ cond (ltb x q) (n + 1) n
step_more x r q m n h k = grind (arith, nat_tests)

step_less : (x r q m n : ℕ) → r ≤ q → m < n → cond (ltb x r) (m + 1) m < cond (ltb x q) (n + 1) n
step_less x r q m n h k = grind (arith, nat_tests)

step_here : (x q m n : ℕ) → x < q → m ≤ n → cond (ltb x x) (m + 1) m < cond (ltb x q) (n + 1) n
step_here x q m n h k = grind (arith, nat_tests)

step_short : (x r m n : ℕ) → m < n → cond (ltb x r) (m + 1) m < n + 1
step_short x r m n h = grind (arith, nat_tests)

step_itself : (x m n : ℕ) → m ≤ n → cond (ltb x x) (m + 1) m < n + 1
step_itself x m n h = grind (arith, nat_tests)

step_all : (x r m n : ℕ) → m ≤ n → cond (ltb x r) (m + 1) m ≤ n + 1
step_all x r m n h = grind (arith, nat_tests)

pub length_numbers : (i n : ℕ) → length (numbers_from i n) ≡ n
length_numbers i zero = refl
length_numbers i (suc n) = ap suc (length_numbers (i + 1) n)

module _ (rank : ℕ → ℕ) where
  below_more : (bs : List ℕ) (r q : ℕ) → r ≤ q → below rank bs r ≤ below rank bs q
  below_more [] r q h = omega arith
  below_more (b ∷ bs) r q h = step_more (rank b) r q (below rank bs r) (below rank bs q) h (below_more bs r q h)

  below_all : (bs : List ℕ) (r : ℕ) → below rank bs r ≤ length bs
  below_all [] r = omega arith
  below_all (b ∷ bs) r = let h = step_all (rank b) r (below rank bs r) (length bs) (below_all bs r) in omega (arith, h)

  -- a place of lesser rank has fewer places below it
  pub below_rises : (bs : List ℕ) (b : ℕ) (q : ℕ) → Among bs b → rank b < q → below rank bs (rank b) < below rank bs q
  below_rises [] b q m h = absurd m
  below_rises (c ∷ bs) b q (inl e) h =
      subst (λ (x : ℕ). cond (ltb (rank x) (rank b)) (below rank bs (rank b) + 1) (below rank bs (rank b)) < cond (ltb (rank x) q) (below rank bs q + 1) (below rank bs q)) e
      (step_here (rank b) q (below rank bs (rank b)) (below rank bs q) h (below_more bs (rank b) q (omega (arith, h))))
  below_rises (c ∷ bs) b q (inr m) h =
      step_less (rank c) (rank b) q (below rank bs (rank b)) (below rank bs q) (omega (arith, h)) (below_rises bs b q m h)

  -- a place has fewer places below it than there are
  pub below_short : (bs : List ℕ) (b : ℕ) → Among bs b → below rank bs (rank b) < length bs
  below_short [] b m = absurd m
  below_short (c ∷ bs) b (inl e) =
      let h = step_itself (rank b) (below rank bs (rank b)) (length bs) (below_all bs (rank b)) in
      let g = subst (λ (x : ℕ). cond (ltb (rank x) (rank b)) (below rank bs (rank b) + 1) (below rank bs (rank b)) < length bs + 1) e h in
      omega (arith, g)
  below_short (c ∷ bs) b (inr m) =
      let h = step_short (rank c) (rank b) (below rank bs (rank b)) (length bs) (below_short bs b m) in omega (arith, h)
