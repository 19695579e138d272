use Rattle.laws_runs.proofs.Begun.{runs_end}
use Rattle.laws_runs.proofs.beginnings.begun_runs_end.Goals as goal

pub returns : goal.returns
returns c = runs_end
