use Rattle.world_laws.proofs.GoneWorlds.{gone_in_each_world}
use Rattle.world_laws.proofs.laws.gone_in_each_world.Goals as goal

pub returns : goal.returns
returns c = gone_in_each_world
