use Rattle.std.proofs.Common.{◌≡◌, ◌&&◌, not, ℕ, List, Option, length}
use Rattle.ledger_rows.specs.ActionRows.Values.{Actions}
use Rattle.ledger_rows.specs.Rows.{AreLosing, Ground, is_pending_in, was_blocked, work}
use Rattle.ledger_rows.proofs.blocking.lose.Given as goal

pub record Going (ground : Ground) (begun rows : Actions) (first pending was fresh : List (Option ℕ)) : Type 0 where
  pub losing : AreLosing ground.setup ground.facts ground.journal rows pending
  pub size : length pending ≡ length first
  pub fresh_size : length fresh ≡ length was
  pub before : (a : ℕ) → (was_blocked rows fresh a && not (is_pending_in pending a)) ≡ (was_blocked begun was a && not (is_pending_in first a))

abbrev pub invariant-loop-action : goal.invariant-loop-action
invariant-loop-action g l = Going g.ground l.initial.rows l.rows l.initial.pending l.pending l.initial.fresh l.fresh

abbrev pub decreases-loop-action : goal.decreases-loop-action
decreases-loop-action g l = work l.rows l.pending
