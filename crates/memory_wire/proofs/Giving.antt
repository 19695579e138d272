-- What was read of a connection in memory grows by the piece that it gives.
use Rattle.std.proofs.Common.{◌≡◌, ℕ, zero, suc, ◌+◌, ◌<◌, ◌==◌, ◌||◌, Bool, List, ◌++◌, length, take, drop, Some, sym, ap, ◌∙◌, arith}
use Rattle.std.proofs.Math.Bool.{or-false}
use Rattle.std.proofs.Math.Dec.{eqb-suc-zero}
use Rattle.std.proofs.Math.Seq.{take-add}
use Rattle.std.proofs.lemmas.List.{take_at}
use Rattle.outside_api.specs.Pipes.{Talk}

goes_on : (n : ℕ) (ended : Bool) → 0 < n → ended ≡ (ended || (n == 0))
goes_on zero ended some = absurd (omega (arith, some))
goes_on (suc n) ended some = sym (ap (λ (b : Bool). ended || b) (eqb-suc-zero n) ∙ or-false ended)

abbrev talk : List ℕ → List ℕ → Bool → Talk
talk written read ended = record { written = written; read = read; ended = ended }

given_piece : (gives piece tail : List ℕ) (given n : ℕ) → piece ≡ take n (drop given gives) → length piece ≡ n
    → take (given + n) gives ≡ take given gives ++ take n (piece ++ tail)
given_piece gives piece tail given n is fits =
    take-add given n gives ∙ ap (λ (p : List ℕ). take given gives ++ p) (sym is) ∙ ap (λ (p : List ℕ). take given gives ++ p) (sym (take_at piece tail n fits))

pub given_more : (written old_written gives old_gives piece tail : List ℕ) (given old_given n : ℕ) (ended old_ended : Bool)
    → written ≡ old_written → gives ≡ old_gives → given ≡ old_given → ended ≡ old_ended → piece ≡ take n (drop given gives) → length piece ≡ n → 0 < n
    → Some (talk written (take (given + n) gives) ended) ≡ Some (talk old_written (take old_given old_gives ++ take n (piece ++ tail)) (old_ended || (n == 0)))
given_more written old_written gives old_gives piece tail given old_given n ended old_ended w g k e is fits some =
    ap (λ (r : List ℕ). Some (talk written r ended)) (given_piece gives piece tail given n is fits)
    ∙ ap (λ (l : List ℕ). Some (talk l (take given gives ++ take n (piece ++ tail)) ended)) w
    ∙ ap (λ (l : List ℕ). Some (talk old_written (take given l ++ take n (piece ++ tail)) ended)) g
    ∙ ap (λ (i : ℕ). Some (talk old_written (take i old_gives ++ take n (piece ++ tail)) ended)) k
    ∙ ap (λ (b : Bool). Some (talk old_written (take old_given old_gives ++ take n (piece ++ tail)) b)) (e ∙ goes_on n old_ended some)
