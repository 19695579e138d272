-- What is seen of a list whose first items are left out, after an edit behind them.
use Rattle.std.proofs.Common.{◌≡◌, ℕ, zero, suc, ◌+◌, ◌<◌, List, [], ◌∷◌, ◌++◌, length, refl, sym, arith}
use Rattle.std.specs.Prelude.{drop, take}
use Rattle.std.specs.List.{remove}
use Rattle.std.proofs.Math.Seq.{take-append_seam}

-- an item behind them is taken out
pub drop-remove : {X : Type 0} (left at : ℕ) (xs : List X) → at < length (drop left xs) → drop left (remove xs (left + at)) ≡ remove (drop left xs) at
drop-remove zero at xs within = let s : 0 + at ≡ at = omega arith in rw s refl
drop-remove (suc left) at [] within = absurd (omega arith)
drop-remove (suc left) at (x ∷ xs) within = let s : suc left + at ≡ suc (left + at) = omega arith in rw s (drop-remove left at xs within)

-- the first item behind them is left out too
pub drop-one_more : {X : Type 0} (left : ℕ) (xs : List X) → drop (left + 1) xs ≡ remove (drop left xs) 0
drop-one_more zero xs = refl
drop-one_more (suc left) [] = let s : suc left + 1 ≡ suc (left + 1) = omega arith in rw s refl
drop-one_more (suc left) (x ∷ xs) = let s : suc left + 1 ≡ suc (left + 1) = omega arith in rw s (drop-one_more left xs)

-- those that are left out go behind the others, and away
pub drop-turned : {X : Type 0} (left kept : ℕ) (xs : List X) → length (drop left xs) ≡ kept → take kept (drop left xs ++ take left xs) ≡ drop left xs
drop-turned left kept xs seen = rw (sym seen) (take-append_seam (drop left xs) (take left xs))
