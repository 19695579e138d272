use Rattle.std.proofs.Common.{◌∙◌}
use Rattle.ledger_rows.proofs.Finding.{first_ready}
use Rattle.ledger_rows.proofs.action_rows.ActionRows.first.Goals as goal

pub returns : goal.returns
returns c = rw (← c.self.view_is) (c.first.ensures.least ∙ first_ready _ _ _ c.self.invariant)
