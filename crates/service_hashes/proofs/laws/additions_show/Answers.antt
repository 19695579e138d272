use Rattle.service_hashes.proofs.Changes.{additions}
use Rattle.service_hashes.proofs.laws.additions_show.Goals as goal

pub returns : goal.returns
returns c = additions
