use Rattle.journal_laws.proofs.Following.{ends, lates, stops}
use Rattle.journal_laws.proofs.laws.calls_are_legal.Goals as goal

pub returns : goal.returns
returns c = record { ends = ends; stops = stops; lates = lates }
