-- Counts of a list.
use Rattle.std.proofs.Common.{◌≡◌, ◌⊎◌, ℕ, zero, suc, ◌+◌, ◌<◌, ◌≤◌, Bool, true, false, cond, ◌==◌, List, [], ◌∷◌, length, slice_get, Some, if◌then◌else◌, refl, ap, ◌∙◌, inl, inr, arith}
use Rattle.std.proofs.lemmas.Bool.{cases_lt, eq-eqb}
use Rattle.run_model.specs.EngineRules.{Among}
use Rattle.run_model.specs.Numbers.{numbers_from}
use Rattle.ledger_rows.specs.Counts.{counted, summed}
use Rattle.ledger_rows.proofs.Watching.{differs}

-- no more than there are
pub counted_most : {X : Type 0} (p : X → Bool) (xs : List X) → counted p xs ≤ length xs
counted_most p [] = omega arith
counted_most {X} p (x ∷ xs) = on (p x) (counted_most p xs)
  where
    on : (t : Bool) → counted p xs ≤ length xs → cond t (counted p xs + 1) (counted p xs) ≤ suc (length xs)
    on true e = omega (arith, e)
    on false e = omega (arith, e)

-- none where none passes
pub counted_none : {X : Type 0} (p : X → Bool) (xs : List X) → ((x : X) → Among xs x → p x ≡ false) → counted p xs ≡ 0
counted_none p [] each = refl
counted_none p (x ∷ xs) each = ap (λ (t : Bool). cond t (counted p xs + 1) (counted p xs)) (each x (inl refl)) ∙ counted_none p xs (λ y m. each y (inr m))

-- as many where the same pass
pub counted_same : {X : Type 0} (p q : X → Bool) (xs : List X) → ((x : X) → p x ≡ q x) → counted p xs ≡ counted q xs
counted_same p q [] each = refl
counted_same p q (x ∷ xs) each = ap (λ (t : Bool). cond t (counted p xs + 1) (counted p xs)) (each x) ∙ ap (λ (n : ℕ). cond (q x) (n + 1) n) (counted_same p q xs each)

-- all where all pass
pub counted_each : {X : Type 0} (p : X → Bool) (xs : List X) → ((x : X) → p x ≡ true) → counted p xs ≡ length xs
counted_each p [] each = refl
counted_each p (x ∷ xs) each =
    let e = counted_each p xs each in
    ap (λ (t : Bool). cond t (counted p xs + 1) (counted p xs)) (each x) ∙ (let k : counted p xs + 1 ≡ suc (length xs) = omega (arith, e) in k)

-- what stands in a list is counted
pub counted_there : (xs : List ℕ) (i a : ℕ) → slice_get xs i ≡ Some a → counted (λ b. b == a) xs ≡ 0 → ⊥
counted_there [] i a e z = cc e
counted_there (x ∷ xs) zero a e z =
    let same : x ≡ a = cc e in
    let one : counted (λ b. b == a) (x ∷ xs) ≡ counted (λ b. b == a) xs + 1 = ap (λ (t : Bool). cond t (counted (λ b. b == a) xs + 1) (counted (λ b. b == a) xs)) (eq-eqb x a same) in
    omega (arith, one, z)
counted_there (x ∷ xs) (suc i) a e z = counted_there xs i a e (by (x == a) z)
  where
    by : (t : Bool) → cond t (counted (λ b. b == a) xs + 1) (counted (λ b. b == a) xs) ≡ 0 → counted (λ b. b == a) xs ≡ 0
    by true k = absurd (omega (arith, k))
    by false k = k

-- the sum is the same where each is
pub summed_same : (f g : ℕ → ℕ) (i n : ℕ) → ((k : ℕ) → f k ≡ g k) → summed f (numbers_from i n) ≡ summed g (numbers_from i n)
summed_same f g i zero each = refl
summed_same f g i (suc n) each = let e = each i in let r = summed_same f g (i + 1) n each in omega (arith, e, r)

-- nothing sums to nothing
summed_zero : (i n : ℕ) → summed (λ a. 0) (numbers_from i n) ≡ 0
summed_zero i zero = refl
summed_zero i (suc n) = let e = summed_zero (i + 1) n in omega (arith, e)

-- sums of sums
summed_both : (f g : ℕ → ℕ) (i n : ℕ) → summed (λ a. f a + g a) (numbers_from i n) ≡ summed f (numbers_from i n) + summed g (numbers_from i n)
summed_both f g i zero = refl
summed_both f g i (suc n) = let e = summed_both f g (i + 1) n in omega (arith, e)

-- whether a number is this, as a number
abbrev is_one : ℕ → ℕ → ℕ
is_one x a = if x == a then 1 else 0

summed_below : (x i n : ℕ) → x < i → summed (is_one x) (numbers_from i n) ≡ 0
summed_below x i zero l = refl
summed_below x i (suc n) l =
    let e = summed_below x (i + 1) n (omega (arith, l)) in
    let z : is_one x i ≡ 0 = ap (λ (t : Bool). cond {A = ℕ} t 1 0) (differs x i (λ (s : x ≡ i). omega (arith, l, s))) in
    omega (arith, e, z)

-- a number in a row is there once
summed_once : (x i n : ℕ) → i ≤ x → x < i + n → summed (is_one x) (numbers_from i n) ≡ 1
summed_once x i zero l m = absurd (omega (arith, l, m))
summed_once x i (suc n) l m = by (cases_lt i x) (λ k. summed_once x (i + 1) n (omega (arith, k)) (omega (arith, m)))
  where
    by : (i < x) ⊎ (x ≤ i) → (i < x → summed (is_one x) (numbers_from (i + 1) n) ≡ 1) → is_one x i + summed (is_one x) (numbers_from (i + 1) n) ≡ 1
    by (inl k) rest =
        let e = rest k in
        let z : is_one x i ≡ 0 = ap (λ (t : Bool). cond {A = ℕ} t 1 0) (differs x i (λ (s : x ≡ i). omega (arith, k, s))) in
        omega (arith, e, z)
    by (inr k) rest =
        let same : x ≡ i = omega (arith, k, l) in
        let e = summed_below x (i + 1) n (omega (arith, k)) in
        let o : is_one x i ≡ 1 = ap (λ (t : Bool). cond {A = ℕ} t 1 0) (eq-eqb x i same) in
        omega (arith, e, o)

-- as long as the sum of how often each stands there
pub length_summed : (xs : List ℕ) (n : ℕ) → ((i a : ℕ) → slice_get xs i ≡ Some a → a < n) → summed (λ a. counted (λ b. b == a) xs) (numbers_from 0 n) ≡ length xs
length_summed [] n there = summed_zero 0 n
length_summed (x ∷ xs) n there =
    let more = summed_same (λ a. counted (λ b. b == a) (x ∷ xs)) (λ a. counted (λ b. b == a) xs + is_one x a) 0 n (λ a. on (x == a) (counted (λ b. b == a) xs)) in
    let split = summed_both (λ a. counted (λ b. b == a) xs) (is_one x) 0 n in
    let rest = length_summed xs n (λ i a e. there (suc i) a e) in
    let inside = there 0 x refl in
    let once = summed_once x 0 n (omega arith) (omega (arith, inside)) in
    omega (arith, more, split, rest, once)
  where
    on : (t : Bool) (k : ℕ) → cond t (k + 1) k ≡ k + (if t then 1 else 0)
    on true k = refl
    on false k = let e : k ≡ k + 0 = omega arith in e
