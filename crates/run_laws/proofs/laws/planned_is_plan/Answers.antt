use Rattle.run_model.proofs.PlanLaws.{planned_is_plan}
use Rattle.run_laws.proofs.laws.planned_is_plan.Goals as goal

pub returns : goal.returns
returns c = planned_is_plan
