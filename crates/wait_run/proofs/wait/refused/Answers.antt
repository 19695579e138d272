use Rattle.wait_run.proofs.Putting.{came_first, came_last}
use Rattle.wait_run.proofs.wait.refused.Goals as goal

pub returns-in-Some : goal.returns-in-Some
returns-in-Some c = came_first c.args.declared.now c.args.failed c.in-Some.failing c.args.refusal c.failed_by.result c.in-Some.ensures c.failed_by.ensures

pub returns-in-None : goal.returns-in-None
returns-in-None c = came_last c.args.declared.now c.args.failed c.args.refusal c.in-None.ensures
