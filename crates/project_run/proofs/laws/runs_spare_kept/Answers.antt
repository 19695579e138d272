use Rattle.project_run.proofs.Sparing.{runs_spare_kept}
use Rattle.project_run.proofs.laws.runs_spare_kept.Goals as goal

pub returns : goal.returns
returns c = runs_spare_kept
