use Rattle.std.proofs.Common.{◌≡◌, ℕ, ◌+◌, ◌==◌, List, length, take}
use Rattle.ledger_rows.specs.ActionRows.{lack_at}
use Rattle.ledger_rows.specs.ActionRows.Values.{Actions}
use Rattle.ledger_rows.specs.Counts.{counted}
use Rattle.ledger_rows.proofs.releasing.release.Given as goal

pub record Releasing (old now : Actions) (released : List ℕ) (i : ℕ) : Type 0 where
  pub states : now.states ≡ old.states
  pub size : length now.lacks ≡ length old.lacks
  pub lacks : (a : ℕ) → lack_at now a + counted (λ b. b == a) (take i released) ≡ lack_at old a

abbrev pub invariant-loop-action : goal.invariant-loop-action
invariant-loop-action l = Releasing l.initial.rows l.rows l.released l.action-index
