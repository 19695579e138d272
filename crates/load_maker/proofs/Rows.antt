-- Lines that are put number by number.
use Rattle.std.proofs.Common.{◌≡◌, ◌∙◌, ℕ, zero, suc, ◌+◌, List, [], ◌∷◌, ◌++◌, append_assoc, ap, sym, arith}
use Rattle.std.specs.List.{flat_map, range_with_len}
use Rattle.std.proofs.lemmas.List.{flat_map_more}

-- one number more, behind the others
range_more : (a n : ℕ) → range_with_len a (n + 1) ≡ range_with_len a n ++ (a + n) ∷ []
range_more a zero = ap (λ (k : ℕ). k ∷ []) (omega arith)
range_more a (suc n) =
    let e : suc n + 1 ≡ suc (n + 1) = omega arith in
    let f : a + 1 + n ≡ a + suc n = omega arith in
    ap (range_with_len a) e
    ∙ ap (λ (l : List ℕ). a ∷ l) (range_more (a + 1) n)
    ∙ ap (λ (k : ℕ). a ∷ (range_with_len (a + 1) n ++ k ∷ [])) f

-- the lines of one number more
pub lines_more : (line : ℕ → List ℕ) (old text new : List ℕ) (k : ℕ)
    → text ≡ old ++ flat_map line (range_with_len 0 k) → new ≡ text ++ line k
    → new ≡ old ++ flat_map line (range_with_len 0 (k + 1))
lines_more line old text new k so_far put =
    let e : 0 + k ≡ k = omega arith in
    put
    ∙ ap (λ (t : List ℕ). t ++ line k) so_far
    ∙ flat_map_more line old (range_with_len 0 k) k
    ∙ ap (λ (l : List ℕ). old ++ flat_map line l) (ap (λ (j : ℕ). range_with_len 0 k ++ j ∷ []) (sym e) ∙ sym (range_more 0 k))

-- three texts are put one behind the other
pub three_put : (old a d b digits t u v : List ℕ)
    → t ≡ old ++ a → u ≡ t ++ d → d ≡ digits → v ≡ u ++ b → v ≡ old ++ (a ++ digits ++ b)
three_put old a d b digits t u v first second is third =
    third
    ∙ ap (λ (l : List ℕ). l ++ b) (second ∙ ap (λ (l : List ℕ). t ++ l) is ∙ ap (λ (l : List ℕ). l ++ digits) first)
    ∙ append_assoc (old ++ a) digits b
    ∙ append_assoc old a (digits ++ b)
    ∙ ap (λ (l : List ℕ). old ++ l) (sym (append_assoc a digits b))
