use Rattle.run_model.proofs.RollLaws.{has_plan}
use Rattle.run_laws.proofs.laws.runs_have_plans.Goals as goal

pub returns : goal.returns
returns c = has_plan
