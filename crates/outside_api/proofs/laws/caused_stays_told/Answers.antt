use Rattle.outside_api.proofs.Accounts.{stays_told}
use Rattle.outside_api.proofs.laws.caused_stays_told.Goals as goal

pub returns : goal.returns
returns c = stays_told
