use Rattle.ledger_core.proofs.Ending.{ended_well}
use Rattle.ledger_core.proofs.laws.good_ends_keep_ledgers.Goals as goal

pub returns : goal.returns
returns c = λ setup journal next rows new slots workers ending w a outcome is single held well said items spare.
    ended_well setup journal rows slots workers ending is w a outcome held well single new said next items spare
