use Rattle.ledger_core.proofs.Answering.{answered}
use Rattle.ledger_core.proofs.laws.answers_are_legal.Goals as goal

pub returns : goal.returns
returns c = answered
