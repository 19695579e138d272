use Rattle.journal_laws.proofs.Holders.{stays_well}
use Rattle.journal_laws.proofs.laws.good_ends_stay.Goals as goal

pub returns : goal.returns
returns c = stays_well
