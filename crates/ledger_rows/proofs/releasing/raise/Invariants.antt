use Rattle.std.proofs.Common.{◌≡◌, ℕ, ◌+◌, ◌==◌, List, length, take}
use Rattle.ledger_rows.specs.ActionRows.{lack_at}
use Rattle.ledger_rows.specs.ActionRows.Values.{Actions}
use Rattle.ledger_rows.specs.Counts.{counted}
use Rattle.ledger_rows.proofs.releasing.raise.Given as goal

-- the first of them are kept by one more
pub record Raising (old now : Actions) (kept : List ℕ) (i : ℕ) : Type 0 where
  pub states : now.states ≡ old.states
  pub size : length now.lacks ≡ length old.lacks
  pub lacks : (a : ℕ) → lack_at now a ≡ lack_at old a + counted (λ b. b == a) (take i kept)

abbrev pub invariant-loop-action : goal.invariant-loop-action
invariant-loop-action l = Raising l.initial.rows l.rows l.kept l.action-index
