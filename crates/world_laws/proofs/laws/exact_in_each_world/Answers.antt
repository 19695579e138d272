use Rattle.world_laws.proofs.ExactWorlds.{exact_in_each_world}
use Rattle.world_laws.proofs.laws.exact_in_each_world.Goals as goal

pub returns : goal.returns
returns c = exact_in_each_world
