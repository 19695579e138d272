use Rattle.ledger_run.proofs.Stepping.{exchanges_are, joined}
use Rattle.ledger_run.proofs.laws.steps_are_the_journals.Goals as goal

pub returns : goal.returns
returns c = record { exchanges = exchanges_are; joined = joined }
