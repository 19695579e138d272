use Rattle.service_hashes.proofs.Alike.{unhashed}
use Rattle.service_hashes.proofs.laws.unhashed_do_not_matter.Goals as goal

pub returns : goal.returns
returns c = unhashed
