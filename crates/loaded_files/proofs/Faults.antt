-- A count that rose in one call rose in a longer time.
use Rattle.std.proofs.Common.{ℕ, ◌<◌, ◌≤◌, ◌⊎◌, inl, inr, arith}
use Rattle.std.proofs.lemmas.Bool.{cases_lt}
use Rattle.outside_files.specs.Counts.{Rose}

pub rose_wider : (a b c d : ℕ) → a ≤ b → b ≤ c → c ≤ d → Rose b c → Rose a d
rose_wider a b c d k m n (inl r) = inl (omega arith)
rose_wider a b c d k m n (inr r) = at (cases_lt a b)
  where
    at : (a < b) ⊎ (b ≤ a) → Rose a d
    at (inl l) = inl (omega arith)
    at (inr l) = inr (omega arith)
