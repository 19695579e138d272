use Rattle.world_laws.proofs.Sights.{seen_is_there}
use Rattle.world_laws.proofs.laws.seen_is_there.Goals as goal

pub returns : goal.returns
returns c = seen_is_there
