-- What is seen of rows of actions.
use Rattle.std.specs.Prelude.{ℕ, List}
use Rattle.ledger_rows.specs.declared.action_rows.State.{State}

-- how each action stands, and how many needs keep it
pub record Actions : Type 0 where
  pub states : List State
  pub lacks : List ℕ
