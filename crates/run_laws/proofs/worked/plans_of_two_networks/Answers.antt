use Rattle.std.proofs.Common.{refl}
use Rattle.std.specs.Fmt.{digits}
use Rattle.run_laws.proofs.worked.plans_of_two_networks.Goals as goal

pub returns : goal.returns
unfolding digits
returns c = record { fresh = refl; created = refl; running = refl; image = refl; down = refl }
