use Rattle.plan_core.proofs.OrderlyPlans.{plans_are_orderly}
use Rattle.plan_core.proofs.laws.plans_are_orderly.Goals as goal

pub returns : goal.returns
returns c = plans_are_orderly
