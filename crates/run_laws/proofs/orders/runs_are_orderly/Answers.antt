-- By a rank of the actions.
use Rattle.run_laws.proofs.RunOrders.{runs_are_orderly}
use Rattle.run_laws.proofs.orders.runs_are_orderly.Goals as goal

pub returns : goal.returns
returns c = runs_are_orderly
