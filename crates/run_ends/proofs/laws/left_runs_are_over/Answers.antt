use Rattle.run_ends.proofs.Leaving.{left_ends}
use Rattle.run_ends.proofs.laws.left_runs_are_over.Goals as goal

pub returns : goal.returns
returns c = left_ends
