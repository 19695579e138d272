use Rattle.std.proofs.Common.{refl}
use Rattle.std.specs.Fmt.{digits}
use Rattle.run_laws.proofs.TwoWorlds.{exact, runs}
use Rattle.run_laws.proofs.worked.lost_create_is_made_once.Goals as goal

pub returns : goal.returns
unfolding digits
returns c = record { runs = runs; once = refl; exact = exact }
