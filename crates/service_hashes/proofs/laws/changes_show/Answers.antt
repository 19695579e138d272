use Rattle.service_hashes.proofs.Changes.{changes}
use Rattle.service_hashes.proofs.laws.changes_show.Goals as goal

pub returns : goal.returns
returns c = changes
