-- What a sink grew by, piece after piece.
use Rattle.std.proofs.Common.{◌≡◌, ◌+◌, ℕ, List, ◌++◌, take, drop, Some, None, ap, sym, ◌∙◌}
use Rattle.std.specs.Prelude.{Option}
use Rattle.std.proofs.lemmas.List.{append_assoc}
use Rattle.std.proofs.Math.Seq.{take-add}
use Rattle.outside_files.specs.Sinks.{GrewBy}

take_more : (i k : ℕ) (xs : List ℕ) → take i xs ++ take k (drop i xs) ≡ take (i + k) xs
take_more i k xs = sym (take-add i k xs)

pub GrewBy-more : (old mid new : Option (List ℕ)) (xs : List ℕ) (i k : ℕ) → GrewBy old (take i xs) mid → GrewBy mid (take k (drop i xs)) new → GrewBy old (take (i + k) xs) new
GrewBy-more None mid new xs i k a b = rw a at b
GrewBy-more (Some s) mid new xs i k a b = (rw a at b) ∙ ap Some (append_assoc s (take i xs) (take k (drop i xs)) ∙ ap (λ t. s ++ t) (take_more i k xs))
