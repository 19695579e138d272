use Rattle.run_laws.proofs.SparingRuns.{cut_runs_spare}
use Rattle.run_laws.proofs.sparing.cut_runs_spare_kept.Goals as goal

pub returns : goal.returns
returns c = cut_runs_spare
