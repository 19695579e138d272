use Rattle.std.proofs.Common.{refl}
use Rattle.wait_run.proofs.Putting.{failed_so}
use Rattle.wait_run.specs.Goals.{failing_report}
use Rattle.wait_run.proofs.wait.came_to.Goals as goal

pub returns-in-Some : goal.returns-in-Some
returns-in-Some c = rw (c.in-Ok.is, c.in-Some.is) (failed_so c.args.declared.now (failing_report c.in-Some.failing) c.failed_by.result c.failed_by.ensures)

pub returns-in-None : goal.returns-in-None
returns-in-None c = rw (c.in-Ok.is, c.in-None.is) refl

pub returns-in-Err : goal.returns-in-Err
returns-in-Err c = rw c.in-Err.is c.refused.ensures
