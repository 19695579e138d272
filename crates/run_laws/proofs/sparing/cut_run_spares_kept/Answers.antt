use Rattle.run_laws.proofs.SparingRuns.{cut_run_spares}
use Rattle.run_laws.proofs.sparing.cut_run_spares_kept.Goals as goal

pub returns : goal.returns
returns c = cut_run_spares
