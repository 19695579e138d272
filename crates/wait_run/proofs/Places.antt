-- Lists over places in which what holds of one place turns.
use Rattle.std.proofs.Common.{◌≡◌, ◌∙◌, ◌++◌, ◌+◌, ◌<◌, ◌≤◌, ◌⊎◌, ◌||◌, ◌&&◌, inl, inr, sym, Bool, true, false, cond, ℕ, zero, suc, List, [], ◌∷◌, Option, Some, length, set, slice_get, refl, ap, arith}
use Rattle.std.specs.Prelude.{◌==◌, filter, filter_map, not}
use Rattle.std.specs.List.{cons_option}
use Rattle.std.specs.List.{list_all, list_any}
use Rattle.std.proofs.lemmas.Bool.{cases_lt, eqb-false, eqb-true, ne_eqb}
use Rattle.run_model.specs.Numbers.{numbers_from}

module _ (p q : ℕ → Bool) where
  -- tests that agree at each place
  pub filter_same : (i n : ℕ) → ((k : ℕ) → i ≤ k → k < i + n → p k ≡ q k) → filter p (numbers_from i n) ≡ filter q (numbers_from i n)
  filter_same i zero same = refl
  filter_same i (suc n) same =
      ap (λ b. cond b (i ∷ filter p (numbers_from (i + 1) n)) (filter p (numbers_from (i + 1) n))) (same i (omega arith) (omega arith))
      ∙ ap (λ l. cond (q i) (i ∷ l) l) (filter_same (i + 1) n (λ k low high. same k (omega (arith, low)) (omega (arith, high))))

above : (i s : ℕ) → i ≤ s → (s == i) ≡ false → (i < s) ⊎ (s ≤ i) → i + 1 ≤ s
above i s low e (inl less) = omega (arith, less)
above i s low e (inr back) = absurd (eqb-false s i e (omega (arith, low, back)))

-- one for a place that passes
abbrev pub one_if : Bool → ℕ
one_if true = 1
one_if false = 0

pub length_cond : (b : Bool) (i : ℕ) (l : List ℕ) → length (cond b (i ∷ l) l) ≡ one_if b + length l
length_cond true i l = omega arith
length_cond false i l = omega arith

module _ (p q : ℕ → Bool) (s : ℕ) (other : (k : ℕ) → (s == k) ≡ false → p k ≡ q k) where
  -- so many places pass, but for the one that turned
  pub filter_turned : (i n : ℕ) → i ≤ s → s < i + n
      → length (filter p (numbers_from i n)) + one_if (q s) ≡ length (filter q (numbers_from i n)) + one_if (p s)
  filter_turned i zero low high = absurd (omega (arith, low, high))
  filter_turned i (suc n) low high = by (s == i) refl (λ up more. filter_turned (i + 1) n up more)
    where
      by : (b : Bool) → (s == i) ≡ b
          → (i + 1 ≤ s → s < i + 1 + n → length (filter p (numbers_from (i + 1) n)) + one_if (q s) ≡ length (filter q (numbers_from (i + 1) n)) + one_if (p s))
          → length (filter p (numbers_from i (suc n))) + one_if (q s) ≡ length (filter q (numbers_from i (suc n))) + one_if (p s)
      by true e later =
          let rest : filter p (numbers_from (i + 1) n) ≡ filter q (numbers_from (i + 1) n) =
          filter_same p q (i + 1) n (λ k up down. other k (ne_eqb s k (λ (same : s ≡ k). omega (arith, eqb-true s i e, same, up)))) in
          let here : s ≡ i = eqb-true s i e in
          let p_here : length (filter p (numbers_from i (suc n))) ≡ one_if (p i) + length (filter p (numbers_from (i + 1) n)) =
          length_cond (p i) i (filter p (numbers_from (i + 1) n)) in
          let q_here : length (filter q (numbers_from i (suc n))) ≡ one_if (q i) + length (filter q (numbers_from (i + 1) n)) =
          length_cond (q i) i (filter q (numbers_from (i + 1) n)) in
          omega (arith, p_here, q_here, ap length rest, ap (λ k. one_if (p k)) here, ap (λ k. one_if (q k)) here)
      by false e later =
          let rest : length (filter p (numbers_from (i + 1) n)) + one_if (q s) ≡ length (filter q (numbers_from (i + 1) n)) + one_if (p s) =
          later (above i s low e (cases_lt i s)) (omega (arith, high)) in
          let p_here : length (filter p (numbers_from i (suc n))) ≡ one_if (p i) + length (filter p (numbers_from (i + 1) n)) =
          length_cond (p i) i (filter p (numbers_from (i + 1) n)) in
          let q_here : length (filter q (numbers_from i (suc n))) ≡ one_if (q i) + length (filter q (numbers_from (i + 1) n)) =
          length_cond (q i) i (filter q (numbers_from (i + 1) n)) in
          omega (arith, p_here, q_here, rest, ap one_if (other i e))

or_turn : (a b c : Bool) → ((a || b) || c) ≡ ((a || c) || b)
or_turn true b c = refl
or_turn false true true = refl
or_turn false true false = refl
or_turn false false true = refl
or_turn false false false = refl

pub or_right : (a b c : Bool) → (a || (b || c)) ≡ ((a || b) || c)
or_right true b c = refl
or_right false b c = refl

any_same : (p q : ℕ → Bool) (i n : ℕ) → ((k : ℕ) → i ≤ k → k < i + n → p k ≡ q k) → list_any p (numbers_from i n) ≡ list_any q (numbers_from i n)
any_same p q i zero each = refl
any_same p q i (suc n) each =
    ap (λ (t : Bool). t || list_any p (numbers_from (i + 1) n)) (each i (omega arith) (omega arith))
    ∙ ap (λ (t : Bool). q i || t) (any_same p q (i + 1) n (λ k l m. each k (omega (arith, l)) (omega (arith, m))))

module _ (p q : ℕ → Bool) (s : ℕ) (b : Bool) (other : (k : ℕ) → (s == k) ≡ false → p k ≡ q k) (here : p s ≡ (q s || b)) where
  -- one place more passes, where it does
  pub any_turned : (i n : ℕ) → i ≤ s → s < i + n → list_any p (numbers_from i n) ≡ (list_any q (numbers_from i n) || b)
  any_turned i zero low high = absurd (omega (arith, low, high))
  any_turned i (suc n) low high = by (s == i) refl (λ up more. any_turned (i + 1) n up more)
    where
      by : (t : Bool) → (s == i) ≡ t → (i + 1 ≤ s → s < i + 1 + n → list_any p (numbers_from (i + 1) n) ≡ (list_any q (numbers_from (i + 1) n) || b)) → list_any p (numbers_from i (suc n)) ≡ (list_any q (numbers_from i (suc n)) || b)
      by true e later =
          let is : s ≡ i = eqb-true s i e in
          let rest : list_any p (numbers_from (i + 1) n) ≡ list_any q (numbers_from (i + 1) n) =
          any_same p q (i + 1) n (λ k up down. other k (ne_eqb s k (λ (same : s ≡ k). omega (arith, is, same, up)))) in
          ap (λ t. p i || t) rest
          ∙ ap (λ t. t || list_any q (numbers_from (i + 1) n)) (ap p (sym is) ∙ here ∙ ap (λ k. q k || b) is)
          ∙ or_turn (q i) b (list_any q (numbers_from (i + 1) n))
      by false e later =
          ap (λ t. t || list_any p (numbers_from (i + 1) n)) (other i e)
          ∙ ap (λ t. q i || t) (later (above i s low e (cases_lt i s)) (omega (arith, high)))
          ∙ or_right (q i) (list_any q (numbers_from (i + 1) n)) b

-- none passes
pub any_none : (p : ℕ → Bool) (l : List ℕ) → ((k : ℕ) → p k ≡ false) → list_any p l ≡ false
any_none p [] none = refl
any_none p (k ∷ l) none = ap (λ t. t || list_any p l) (none k) ∙ any_none p l none

-- all pass, and none is left that doesn't
pub all_left : (p : ℕ → Bool) (l : List ℕ) → list_all p l ≡ (length (filter (λ k. not (p k)) l) == 0)
all_left p [] = refl
all_left p (k ∷ l) = by (p k) (all_left p l)
  where
    by : (t : Bool) → list_all p l ≡ (length (filter (λ k. not (p k)) l) == 0)
        → (t && list_all p l) ≡ (length (cond (not t) (k ∷ filter (λ k. not (p k)) l) (filter (λ k. not (p k)) l)) == 0)
    by true e = e
    by false e = sym (ne_eqb (suc (length (filter (λ k. not (p k)) l))) 0 (λ same. omega (arith, same)))

pub length_numbers : (i n : ℕ) → length (numbers_from i n) ≡ n
length_numbers i zero = refl
length_numbers i (suc n) = ap suc (length_numbers (i + 1) n)

-- no more pass than there are
pub filter_short : (p : ℕ → Bool) (l : List ℕ) → length (filter p l) ≤ length l
filter_short p [] = omega arith
filter_short p (k ∷ l) = by (p k) (filter_short p l)
  where
    by : (t : Bool) → length (filter p l) ≤ length l → length (cond t (k ∷ filter p l) (filter p l)) ≤ length (k ∷ l)
    by true e = omega (arith, e)
    by false e = omega (arith, e)

pub filter_all : (p : ℕ → Bool) (l : List ℕ) → ((k : ℕ) → p k ≡ true) → filter p l ≡ l
filter_all p [] each = refl
filter_all p (k ∷ l) each = ap (λ t. cond t (k ∷ filter p l) (filter p l)) (each k) ∙ ap (λ m. k ∷ m) (filter_all p l each)

-- one number more
pub numbers_more : (i n : ℕ) → numbers_from i (n + 1) ≡ numbers_from i n ++ (i + n) ∷ []
numbers_more i zero = let e : i ≡ i + 0 = omega arith in ap (λ (k : ℕ). k ∷ []) e
numbers_more i (suc n) =
    let e : (i + 1) + n ≡ i + suc n = omega arith in
    let f : suc n + 1 ≡ suc (n + 1) = omega arith in
    ap (numbers_from i) f ∙ ap (λ l. i ∷ l) (numbers_more (i + 1) n) ∙ ap (λ (k : ℕ). i ∷ (numbers_from (i + 1) n ++ k ∷ [])) e

pub number_at : (i n k : ℕ) → k < n → slice_get (numbers_from i n) k ≡ Some (i + k)
number_at i zero k less = absurd (omega (arith, less))
number_at i (suc n) zero less = let e : i ≡ i + 0 = omega arith in ap Some e
number_at i (suc n) (suc k) less = let e : (i + 1) + k ≡ i + suc k = omega arith in number_at (i + 1) n k (omega (arith, less)) ∙ ap Some e

module _ (f g : ℕ → Option ℕ) (p q : ℕ → Bool) where
  -- what is picked of places that pass
  pub picked_same : (i n : ℕ) → ((k : ℕ) → k < i + n → p k ≡ q k) → ((k : ℕ) → k < i + n → f k ≡ g k)
      → filter_map f (filter p (numbers_from i n)) ≡ filter_map g (filter q (numbers_from i n))
  picked_same i zero same pick = refl
  picked_same i (suc n) same pick =
      ap (λ t. filter_map f (cond t (i ∷ filter p (numbers_from (i + 1) n)) (filter p (numbers_from (i + 1) n)))) (same i (omega arith))
      ∙ by (q i) (picked_same (i + 1) n (λ k less. same k (omega (arith, less))) (λ k less. pick k (omega (arith, less))))
    where
      by : (t : Bool) → filter_map f (filter p (numbers_from (i + 1) n)) ≡ filter_map g (filter q (numbers_from (i + 1) n))
          → filter_map f (cond t (i ∷ filter p (numbers_from (i + 1) n)) (filter p (numbers_from (i + 1) n)))
          ≡ filter_map g (cond t (i ∷ filter q (numbers_from (i + 1) n)) (filter q (numbers_from (i + 1) n)))
      by true e = ap (λ o. cons_option o (filter_map f (filter p (numbers_from (i + 1) n)))) (pick i (omega arith)) ∙ ap (cons_option (g i)) e
      by false e = e

-- nothing passes among these places
pub filter_none : (p : ℕ → Bool) (i n : ℕ) → ((k : ℕ) → k < i + n → p k ≡ false) → filter p (numbers_from i n) ≡ []
filter_none p i zero none = refl
filter_none p i (suc n) none =
    ap (λ t. cond t (i ∷ filter p (numbers_from (i + 1) n)) (filter p (numbers_from (i + 1) n))) (none i (omega arith))
    ∙ filter_none p (i + 1) n (λ k less. none k (omega (arith, less)))

-- the first place that passes
pub first_passes : (p : ℕ → Bool) (s i n : ℕ) → i ≤ s → s < i + n → ((k : ℕ) → k < s → p k ≡ false) → p s ≡ true
    → slice_get (filter p (numbers_from i n)) 0 ≡ Some s
first_passes p s i zero low high before here = absurd (omega (arith, low, high))
first_passes p s i (suc n) low high before here = by (s == i) refl (λ up more. first_passes p s (i + 1) n up more before here)
  where
    by : (t : Bool) → (s == i) ≡ t → (i + 1 ≤ s → s < i + 1 + n → slice_get (filter p (numbers_from (i + 1) n)) 0 ≡ Some s) → slice_get (filter p (numbers_from i (suc n))) 0 ≡ Some s
    by true e later =
        let is : s ≡ i = eqb-true s i e in
        ap (λ t. slice_get (cond t (i ∷ filter p (numbers_from (i + 1) n)) (filter p (numbers_from (i + 1) n))) 0) (ap p (sym is) ∙ here)
        ∙ ap Some (sym is)
    by false e later =
        let up : i + 1 ≤ s = above i s low e (cases_lt i s) in
        ap (λ t. slice_get (cond t (i ∷ filter p (numbers_from (i + 1) n)) (filter p (numbers_from (i + 1) n))) 0) (before i (omega (arith, up)))
        ∙ later up (omega (arith, high))

-- ---- an item that is written

pub written_there : {A : Type 0} (l : List A) (i : ℕ) (a : A) → i < length l → slice_get (set l i a) i ≡ Some a
written_there [] i a less = absurd (omega (arith, less))
written_there (x ∷ l) zero a less = refl
written_there (x ∷ l) (suc i) a less = written_there l i a (omega (arith, less))

pub written_elsewhere : {A : Type 0} (l : List A) (i k : ℕ) (a : A) → (i == k) ≡ false → slice_get (set l i a) k ≡ slice_get l k
written_elsewhere [] i k a other = refl
written_elsewhere (x ∷ l) zero zero a other = absurd (eqb-false zero zero other refl)
written_elsewhere (x ∷ l) zero (suc k) a other = refl
written_elsewhere (x ∷ l) (suc i) zero a other = refl
written_elsewhere (x ∷ l) (suc i) (suc k) a other = written_elsewhere l i k a (ne_eqb i k (λ (same : i ≡ k). eqb-false (suc i) (suc k) other (ap suc same)))

pub got_before : {A : Type 0} (l m : List A) (k : ℕ) → k < length l → slice_get (l ++ m) k ≡ slice_get l k
got_before [] m k less = absurd (omega (arith, less))
got_before (x ∷ l) m zero less = refl
got_before (x ∷ l) m (suc k) less = got_before l m k (omega (arith, less))

pub got_last : {A : Type 0} (l : List A) (x : A) → slice_get (l ++ x ∷ []) (length l) ≡ Some x
got_last [] x = refl
got_last (y ∷ l) x = got_last l x
