use Rattle.rolling_update.proofs.Filling.{cut_runs_empty_at_most}
use Rattle.rolling_update.proofs.laws.cut_runs_empty_at_most.Goals as goal

pub returns : goal.returns
returns c = cut_runs_empty_at_most
