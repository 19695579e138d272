-- The losses of a call.
use Rattle.std.specs.Prelude.{◌≡◌, ℕ, false, length}
use Rattle.run_model.specs.Journals.{Setup}
use Rattle.ledger_rows.specs.Rows.{is_pending_in}
use Rattle.ledger_ends.specs.declared.losses.Losses.{Losses}

-- no loss waits, and none is fresh; there is room for each action's
pub record HasNoLosses (setup : Setup) (losses : Losses) : Type 0 where
  pub pending_size : length losses.pending ≡ length setup.actions
  pub no_pending : (a : ℕ) → is_pending_in losses.pending a ≡ false
  pub fresh_size : length losses.fresh ≡ length setup.actions
  pub no_fresh : (a : ℕ) → is_pending_in losses.fresh a ≡ false
