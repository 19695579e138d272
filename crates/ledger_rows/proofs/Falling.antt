-- How counts fall over a list of actions.
use Rattle.std.proofs.Common.{◌≡◌, ◌⊎◌, ℕ, zero, suc, ◌+◌, ◌-◌, ◌<◌, ◌≤◌, ◌==◌, Bool, true, false, cond, List, [], ◌∷◌, length, take, get_or, set, refl, sym, ap, ◌∙◌, subst, inl, inr, arith}
use Rattle.std.proofs.lemmas.Bool.{cases_eq, eqb-true, eq-eqb}
use Rattle.std.proofs.lemmas.Grind.{common_steps}
use Rattle.ledger_rows.specs.ActionRows.{lack_at}
use Rattle.ledger_rows.specs.ActionRows.Values.{Actions}
use Rattle.ledger_rows.specs.Counts.{counted}

-- one more element
pub counted_more : (p : ℕ → Bool) (xs : List ℕ) (i : ℕ) → i < length xs → counted p (take (i + 1) xs) ≡ counted p (take i xs) + cond (p (get_or xs i 0)) 1 0
counted_more p [] i l = absurd (omega arith)
counted_more p (x ∷ xs) zero l = on (p x)
  where
    on : (t : Bool) → cond t (0 + 1) 0 ≡ 0 + cond t 1 0
    on true = refl
    on false = refl
counted_more p (x ∷ xs) (suc i) l = let h : i < length xs = omega arith in
    subst (λ (k : ℕ). counted p (take k (x ∷ xs)) ≡ counted p (take (suc i) (x ∷ xs)) + cond (p (get_or xs i 0)) 1 0) (let e : suc (i + 1) ≡ suc i + 1 = omega arith in e)
    (on (p x) (counted p (take (i + 1) xs)) (counted p (take i xs)) (cond (p (get_or xs i 0)) 1 0) (counted_more p xs i h))
  where
    on : (t : Bool) (a b c : ℕ) → a ≡ b + c → cond t (a + 1) a ≡ cond t (b + 1) b + c
    on true a b c e = omega (arith, e)
    on false a b c e = e

-- no part has more
pub counted_part : (p : ℕ → Bool) (xs : List ℕ) (i : ℕ) → counted p (take i xs) ≤ counted p xs
counted_part p [] zero = omega arith
counted_part p [] (suc i) = omega arith
counted_part p (x ∷ xs) zero = omega arith
counted_part p (x ∷ xs) (suc i) = on (p x) (counted_part p xs i)
  where
    on : (t : Bool) → counted p (take i xs) ≤ counted p xs → cond t (counted p (take i xs) + 1) (counted p (take i xs)) ≤ cond t (counted p xs + 1) (counted p xs)
    on true e = omega (arith, e)
    on false e = e

-- the action at a place is still kept by one more
pub still_kept : (old now : Actions) (xs : List ℕ) (i : ℕ) → i < length xs → ((a : ℕ) → lack_at now a + counted (λ b. b == a) (take i xs) ≡ lack_at old a)
    → ((a : ℕ) → counted (λ b. b == a) xs ≤ lack_at old a) → 1 ≤ lack_at now (get_or xs i 0)
still_kept old now xs i l fell kept =
    let x : ℕ = get_or xs i 0 in
    let m = counted_more (λ b. b == get_or xs i 0) xs i l in
    let one : cond {A = ℕ} (get_or xs i 0 == get_or xs i 0) 1 0 ≡ 1 = rw (eq-eqb (get_or xs i 0) (get_or xs i 0) refl) refl in
    let p = counted_part (λ b. b == get_or xs i 0) xs (i + 1) in
    let f = fell (get_or xs i 0) in
    let k = kept (get_or xs i 0) in
    omega (arith, m, one, p, f, k)

pub fell_more : (old now : Actions) (xs lacks : List ℕ) (i : ℕ) → i < length xs → get_or xs i 0 < length now.lacks → 1 ≤ lack_at now (get_or xs i 0)
    → lacks ≡ set now.lacks (get_or xs i 0) (lack_at now (get_or xs i 0) - 1)
    → ((a : ℕ) → lack_at now a + counted (λ b. b == a) (take i xs) ≡ lack_at old a) → (a : ℕ) → get_or lacks a 0 + counted (λ b. b == a) (take (i + 1) xs) ≡ lack_at old a
fell_more old now xs lacks i l inside some e fell a = on (cases_eq (get_or xs i 0) a)
  where
    on : (get_or xs i 0 ≡ a) ⊎ (get_or xs i 0 ≡ a → ⊥) → get_or lacks a 0 + counted (λ b. b == a) (take (i + 1) xs) ≡ lack_at old a
    on (inl s) =
        let m = counted_more (λ b. b == a) xs i l in
        let one : cond {A = ℕ} (get_or xs i 0 == a) 1 0 ≡ 1 = rw (eq-eqb (get_or xs i 0) a s) refl in
        let here : get_or (set now.lacks (get_or xs i 0) (lack_at now (get_or xs i 0) - 1)) a 0 ≡ lack_at now (get_or xs i 0) - 1 = grind (arith, common_steps) in
        let there : get_or lacks a 0 ≡ lack_at now (get_or xs i 0) - 1 = ap (λ (ns : List ℕ). get_or ns a 0) e ∙ here in
        let f : lack_at now (get_or xs i 0) + counted (λ b. b == a) (take i xs) ≡ lack_at old a = subst (λ (k : ℕ). lack_at now k + counted (λ b. b == a) (take i xs) ≡ lack_at old a) (sym s) (fell a) in
        omega (arith, m, one, there, f, some)
    on (inr s) =
        let m = counted_more (λ b. b == a) xs i l in
        let none : cond {A = ℕ} (get_or xs i 0 == a) 1 0 ≡ 0 = by (get_or xs i 0 == a) refl in
        let here : get_or (set now.lacks (get_or xs i 0) (lack_at now (get_or xs i 0) - 1)) a 0 ≡ get_or now.lacks a 0 = grind (arith, common_steps) in
        let there : get_or lacks a 0 ≡ lack_at now a = ap (λ (ns : List ℕ). get_or ns a 0) e ∙ here in
        let f = fell a in
        omega (arith, m, none, there, f)
      where
        by : (t : Bool) → (get_or xs i 0 == a) ≡ t → cond {A = ℕ} t 1 0 ≡ 0
        by true h = absurd (s (eqb-true (get_or xs i 0) a h))
        by false h = refl

-- one more for the action at a place is still small
pub still_small : (old now : Actions) (xs : List ℕ) (i : ℕ) → i < length xs → ((a : ℕ) → lack_at now a ≡ lack_at old a + counted (λ b. b == a) (take i xs))
    → ((a : ℕ) → lack_at old a + counted (λ b. b == a) xs < 4294967296) → lack_at now (get_or xs i 0) + 1 < 4294967296
still_small old now xs i l rose small =
    let m = counted_more (λ b. b == get_or xs i 0) xs i l in
    let one : cond {A = ℕ} (get_or xs i 0 == get_or xs i 0) 1 0 ≡ 1 = rw (eq-eqb (get_or xs i 0) (get_or xs i 0) refl) refl in
    let p = counted_part (λ b. b == get_or xs i 0) xs (i + 1) in
    let f = rose (get_or xs i 0) in
    let k = small (get_or xs i 0) in
    omega (arith, m, one, p, f, k)

pub rose_more : (old now : Actions) (xs lacks : List ℕ) (i : ℕ) → i < length xs → get_or xs i 0 < length now.lacks
    → lacks ≡ set now.lacks (get_or xs i 0) (lack_at now (get_or xs i 0) + 1)
    → ((a : ℕ) → lack_at now a ≡ lack_at old a + counted (λ b. b == a) (take i xs)) → (a : ℕ) → get_or lacks a 0 ≡ lack_at old a + counted (λ b. b == a) (take (i + 1) xs)
rose_more old now xs lacks i l inside e rose a = on (cases_eq (get_or xs i 0) a)
  where
    on : (get_or xs i 0 ≡ a) ⊎ (get_or xs i 0 ≡ a → ⊥) → get_or lacks a 0 ≡ lack_at old a + counted (λ b. b == a) (take (i + 1) xs)
    on (inl s) =
        let m = counted_more (λ b. b == a) xs i l in
        let one : cond {A = ℕ} (get_or xs i 0 == a) 1 0 ≡ 1 = rw (eq-eqb (get_or xs i 0) a s) refl in
        let here : get_or (set now.lacks (get_or xs i 0) (lack_at now (get_or xs i 0) + 1)) a 0 ≡ lack_at now (get_or xs i 0) + 1 = grind (arith, common_steps) in
        let there : get_or lacks a 0 ≡ lack_at now (get_or xs i 0) + 1 = ap (λ (ns : List ℕ). get_or ns a 0) e ∙ here in
        let f : lack_at now (get_or xs i 0) ≡ lack_at old a + counted (λ b. b == a) (take i xs) = subst (λ (k : ℕ). lack_at now k ≡ lack_at old a + counted (λ b. b == a) (take i xs)) (sym s) (rose a) in
        omega (arith, m, one, there, f)
    on (inr s) =
        let m = counted_more (λ b. b == a) xs i l in
        let none : cond {A = ℕ} (get_or xs i 0 == a) 1 0 ≡ 0 = by (get_or xs i 0 == a) refl in
        let here : get_or (set now.lacks (get_or xs i 0) (lack_at now (get_or xs i 0) + 1)) a 0 ≡ get_or now.lacks a 0 = grind (arith, common_steps) in
        let there : get_or lacks a 0 ≡ lack_at now a = ap (λ (ns : List ℕ). get_or ns a 0) e ∙ here in
        let f = rose a in
        omega (arith, m, none, there, f)
      where
        by : (t : Bool) → (get_or xs i 0 == a) ≡ t → cond {A = ℕ} t 1 0 ≡ 0
        by true h = absurd (s (eqb-true (get_or xs i 0) a h))
        by false h = refl
