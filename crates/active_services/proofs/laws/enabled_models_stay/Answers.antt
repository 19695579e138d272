use Rattle.active_services.proofs.AllEnabled.{models_stay}
use Rattle.active_services.proofs.laws.enabled_models_stay.Goals as goal

pub returns : goal.returns
returns c = models_stay
