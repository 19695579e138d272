use Rattle.world_laws.proofs.Leaving.{one_worker_leaves}
use Rattle.world_laws.proofs.laws.one_worker_leaves.Goals as goal

pub returns : goal.returns
returns c = one_worker_leaves
