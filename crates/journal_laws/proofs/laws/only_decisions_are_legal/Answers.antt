use Rattle.journal_laws.proofs.Following.{only}
use Rattle.journal_laws.proofs.laws.only_decisions_are_legal.Goals as goal

pub returns : goal.returns
returns c = only
