use Rattle.world_laws.proofs.Ended.{every_action_ended_well}
use Rattle.world_laws.proofs.laws.every_action_ended_well.Goals as goal

pub returns : goal.returns
returns c = every_action_ended_well
