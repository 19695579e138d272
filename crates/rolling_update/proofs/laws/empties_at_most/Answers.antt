use Rattle.rolling_update.proofs.Filling.{empties_at_most}
use Rattle.rolling_update.proofs.laws.empties_at_most.Goals as goal

pub returns : goal.returns
returns c = empties_at_most
