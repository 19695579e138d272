use Rattle.project_keys.proofs.NoneLost.{none_lost}
use Rattle.project_keys.proofs.laws.no_service_is_lost.Goals as goal

pub returns : goal.returns
returns c = none_lost
