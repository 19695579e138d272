use Rattle.active_services.proofs.WhichKept.{which_kept}
use Rattle.active_services.proofs.laws.enabled_services_are_kept.Goals as goal

pub returns : goal.returns
returns c = which_kept
