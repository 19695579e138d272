-- How rows of dependents grow.
use Rattle.std.proofs.Common.{◌≡◌, ◌⊎◌, ℕ, ◌+◌, ◌<◌, ◌==◌, Bool, true, false, cond, List, [], ◌∷◌, ◌++◌, length, take, get_or, set, if◌then◌else◌, refl, ap, ◌∙◌, inl, inr, arith}
use Rattle.std.proofs.lemmas.Bool.{cases_eq, eq-eqb}
use Rattle.std.proofs.lemmas.Grind.{common_steps}
use Rattle.ledger_rows.specs.Counts.{counted}
use Rattle.ledger_rows.proofs.Falling.{counted_more}
use Rattle.ledger_rows.proofs.Watching.{differs}

counted_push : (p : ℕ → Bool) (xs : List ℕ) (y : ℕ) → counted p (xs ++ y ∷ []) ≡ counted p xs + cond {A = ℕ} (p y) 1 0
counted_push p [] y = on (p y)
  where
    on : (t : Bool) → cond {A = ℕ} t (0 + 1) 0 ≡ 0 + cond {A = ℕ} t 1 0
    on true = refl
    on false = refl
counted_push p (x ∷ xs) y = on (p x) (counted_push p xs y)
  where
    on : (t : Bool) → counted p (xs ++ y ∷ []) ≡ counted p xs + cond {A = ℕ} (p y) 1 0 → cond t (counted p (xs ++ y ∷ []) + 1) (counted p (xs ++ y ∷ [])) ≡ cond t (counted p xs + 1) (counted p xs) + cond {A = ℕ} (p y) 1 0
    on true e = omega (arith, e)
    on false e = e

pub added_more : (old now rows : List (List ℕ)) (needs : List ℕ) (i action : ℕ) → i < length needs → get_or needs i 0 < length now → rows ≡ set now (get_or needs i 0) (get_or now (get_or needs i 0) [] ++ action ∷ [])
    → ((x a : ℕ) → counted (λ b. b == a) (get_or now x []) ≡ counted (λ b. b == a) (get_or old x []) + (if action == a then counted (λ b. b == x) (take i needs) else 0))
    → (x a : ℕ) → counted (λ b. b == a) (get_or rows x []) ≡ counted (λ b. b == a) (get_or old x []) + (if action == a then counted (λ b. b == x) (take (i + 1) needs) else 0)
added_more old now rows needs i action l inside e so_far x a = on (cases_eq (get_or needs i 0) x)
  where
    more : counted (λ b. b == x) (take (i + 1) needs) ≡ counted (λ b. b == x) (take i needs) + cond {A = ℕ} (get_or needs i 0 == x) 1 0
    more = counted_more (λ b. b == x) needs i l

    close : (t : Bool) (m n k c : ℕ) → c ≡ k + 1 → m ≡ n + (if t then k else 0) → m + cond {A = ℕ} t 1 0 ≡ n + (if t then c else 0)
    close true m n k c h j = omega (arith, h, j)
    close false m n k c h j = omega (arith, j)

    keep : (t : Bool) (m n k c : ℕ) → c ≡ k → m ≡ n + (if t then k else 0) → m ≡ n + (if t then c else 0)
    keep true m n k c h j = omega (arith, h, j)
    keep false m n k c h j = j

    on : (get_or needs i 0 ≡ x) ⊎ (get_or needs i 0 ≡ x → ⊥) → counted (λ b. b == a) (get_or rows x []) ≡ counted (λ b. b == a) (get_or old x []) + (if action == a then counted (λ b. b == x) (take (i + 1) needs) else 0)
    on (inl s) =
        let here : get_or (set now (get_or needs i 0) (get_or now (get_or needs i 0) [] ++ action ∷ [])) x [] ≡ get_or now (get_or needs i 0) [] ++ action ∷ [] = grind (arith, common_steps) in
        let there : get_or rows x [] ≡ get_or now x [] ++ action ∷ [] = ap (λ (rs : List (List ℕ)). get_or rs x []) e ∙ here ∙ ap (λ (k : ℕ). get_or now k [] ++ action ∷ []) s in
        let one : cond {A = ℕ} (get_or needs i 0 == x) 1 0 ≡ 1 = ap (λ (t : Bool). cond {A = ℕ} t 1 0) (eq-eqb (get_or needs i 0) x s) in
        let c : counted (λ b. b == x) (take (i + 1) needs) ≡ counted (λ b. b == x) (take i needs) + 1 = omega (arith, more, one) in
        ap (counted (λ b. b == a)) there ∙ counted_push (λ b. b == a) (get_or now x []) action
        ∙ close (action == a) (counted (λ b. b == a) (get_or now x [])) (counted (λ b. b == a) (get_or old x [])) (counted (λ b. b == x) (take i needs)) (counted (λ b. b == x) (take (i + 1) needs)) c (so_far x a)
    on (inr n) =
        let here : get_or (set now (get_or needs i 0) (get_or now (get_or needs i 0) [] ++ action ∷ [])) x [] ≡ get_or now x [] = grind (arith, common_steps) in
        let there : get_or rows x [] ≡ get_or now x [] = ap (λ (rs : List (List ℕ)). get_or rs x []) e ∙ here in
        let none : cond {A = ℕ} (get_or needs i 0 == x) 1 0 ≡ 0 = ap (λ (t : Bool). cond {A = ℕ} t 1 0) (differs (get_or needs i 0) x n) in
        let c : counted (λ b. b == x) (take (i + 1) needs) ≡ counted (λ b. b == x) (take i needs) = omega (arith, more, none) in
        ap (counted (λ b. b == a)) there
        ∙ keep (action == a) (counted (λ b. b == a) (get_or now x [])) (counted (λ b. b == a) (get_or old x [])) (counted (λ b. b == x) (take i needs)) (counted (λ b. b == x) (take (i + 1) needs)) c (so_far x a)
