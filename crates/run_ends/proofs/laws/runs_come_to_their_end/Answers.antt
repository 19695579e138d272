use Rattle.run_ends.proofs.Leaving.{runs_end}
use Rattle.run_ends.proofs.laws.runs_come_to_their_end.Goals as goal

pub returns : goal.returns
returns c = runs_end
