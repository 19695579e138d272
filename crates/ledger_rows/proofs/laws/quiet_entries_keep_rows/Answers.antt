use Rattle.ledger_rows.proofs.Turns.{quiet_kept}
use Rattle.ledger_rows.proofs.laws.quiet_entries_keep_rows.Goals as goal

pub returns : goal.returns
returns c = quiet_kept
