use Rattle.run_ends.proofs.Leaving.{first_ends}
use Rattle.run_ends.proofs.laws.first_leave_ends_run.Goals as goal

pub returns : goal.returns
returns c = first_ends
