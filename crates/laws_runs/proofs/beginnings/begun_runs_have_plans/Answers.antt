use Rattle.laws_runs.proofs.Begun.{have_plans}
use Rattle.laws_runs.proofs.beginnings.begun_runs_have_plans.Goals as goal

pub returns : goal.returns
returns c = have_plans
