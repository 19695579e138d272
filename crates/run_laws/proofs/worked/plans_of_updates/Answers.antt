use Rattle.std.proofs.Common.{refl}
use Rattle.std.specs.Fmt.{digits}
use Rattle.run_laws.proofs.worked.plans_of_updates.Goals as goal

pub returns : goal.returns
unfolding digits
returns c = record { one = refl; two = refl; all = refl; down = refl; old = refl; stale = refl; new = refl }
