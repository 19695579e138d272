use Rattle.ledger_rows.specs.Facts.{facts_of}
use Rattle.ledger_rows.specs.Rows.{blocked_in}
use Rattle.ledger_rows.proofs.Changes.{blocked_lacks}
use Rattle.ledger_rows.proofs.Steps.{next_is}
use Rattle.ledger_rows.proofs.laws.ready_is_next.Goals as goal

pub returns : goal.returns
returns c = λ setup past journal rows orderly sound are. next_is setup orderly past journal rows are
    (λ a l h k. blocked_lacks setup (facts_of setup past) (blocked_in rows) are.blocked sound a h)
