use Rattle.journal_laws.proofs.Reports.{polled}
use Rattle.journal_laws.proofs.laws.polled_slots_count.Goals as goal

pub returns : goal.returns
returns c = polled
