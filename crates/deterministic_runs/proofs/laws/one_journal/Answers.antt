use Rattle.deterministic_runs.proofs.OneJournal.{one_journal}
use Rattle.deterministic_runs.proofs.laws.one_journal.Goals as goal

pub returns : goal.returns
returns c = one_journal
