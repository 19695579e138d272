use Rattle.run_ends.proofs.Leaving.{last_ends}
use Rattle.run_ends.proofs.laws.last_leaves_end_runs.Goals as goal

pub returns : goal.returns
returns c = last_ends
