-- How rows are turned round.
use Rattle.std.proofs.Common.{◌≡◌, ◌⊎◌, ℕ, ◌+◌, ◌<◌, ◌≤◌, ◌==◌, Bool, false, List, [], length, get_or, if◌then◌else◌, sym, ap, ◌∙◌, inl, inr, arith}
use Rattle.std.proofs.lemmas.Bool.{cases_eq, cases_lt, eq-eqb}
use Rattle.std.proofs.lemmas.Grind.{common_steps}
use Rattle.ledger_rows.specs.Counts.{counted}
use Rattle.ledger_rows.proofs.Watching.{differs}

-- the rows of the first actions were turned round
pub record Turning (rows needs : List (List ℕ)) (at : ℕ) : Type 0 where
  pub size : length rows ≡ length needs
  pub done : (x a : ℕ) → a < at → counted (λ b. b == a) (get_or rows x []) ≡ counted (λ b. b == x) (get_or needs a [])
  pub left : (x a : ℕ) → at ≤ a → counted (λ b. b == a) (get_or rows x []) ≡ 0

-- one more
pub turned_more : (needs rows next : List (List ℕ)) (row : List ℕ) (at : ℕ) → row ≡ get_or needs at [] → Turning rows needs at → length next ≡ length rows
    → ((x a : ℕ) → counted (λ b. b == a) (get_or next x []) ≡ counted (λ b. b == a) (get_or rows x []) + (if at == a then counted (λ b. b == x) row else 0)) → Turning next needs (at + 1)
turned_more needs rows next row at here so_far size more = record {
  size = size ∙ so_far.size;
  done = λ x a l. on x a l (cases_eq at a);
  left = λ x a l. let e = more x a in let k = so_far.left x a (omega (arith, l)) in
      let n : at == a ≡ false = differs at a (λ (s : at ≡ a). omega (arith, l, s)) in
      e ∙ ap (λ (t : Bool). counted (λ b. b == a) (get_or rows x []) + (if t then counted (λ b. b == x) row else 0)) n ∙ (let z : counted (λ b. b == a) (get_or rows x []) + 0 ≡ 0 = omega (arith, k) in z);
}
  where
    on : (x a : ℕ) → a < at + 1 → (at ≡ a) ⊎ (at ≡ a → ⊥) → counted (λ b. b == a) (get_or next x []) ≡ counted (λ b. b == x) (get_or needs a [])
    on x a l (inl s) =
        let k = so_far.left x a (omega (arith, s)) in
        more x a ∙ ap (λ (t : Bool). counted (λ b. b == a) (get_or rows x []) + (if t then counted (λ b. b == x) row else 0)) (eq-eqb at a s)
        ∙ (let z : counted (λ b. b == a) (get_or rows x []) + counted (λ b. b == x) row ≡ counted (λ b. b == x) row = omega (arith, k) in z)
        ∙ ap (counted (λ b. b == x)) (here ∙ ap (λ (i : ℕ). get_or needs i []) s)
    on x a l (inr n) =
        more x a ∙ ap (λ (t : Bool). counted (λ b. b == a) (get_or rows x []) + (if t then counted (λ b. b == x) row else 0)) (differs at a n)
        ∙ (let z : counted (λ b. b == a) (get_or rows x []) + 0 ≡ counted (λ b. b == a) (get_or rows x []) = omega arith in z)
        ∙ so_far.done x a (below l n)
      where
        below : a < at + 1 → (at ≡ a → ⊥) → a < at
        below l n = by (cases_lt a at)
          where
            by : (a < at) ⊎ (at ≤ a) → a < at
            by (inl k) = k
            by (inr k) = absurd (n (let e : at ≡ a = omega (arith, k, l) in e))

-- all of them
pub turned_all : (rows needs : List (List ℕ)) (at : ℕ) → length needs ≤ at → Turning rows needs at → (x a : ℕ) → counted (λ b. b == a) (get_or rows x []) ≡ counted (λ b. b == x) (get_or needs a [])
turned_all rows needs at end so_far x a = on (cases_lt a at)
  where
    on : (a < at) ⊎ (at ≤ a) → counted (λ b. b == a) (get_or rows x []) ≡ counted (λ b. b == x) (get_or needs a [])
    on (inl l) = so_far.done x a l
    on (inr l) = so_far.left x a l ∙ sym (ap (counted (λ b. b == x)) (let e : get_or needs a [] ≡ [] = grind (arith, common_steps) in e))
