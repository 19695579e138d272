use Rattle.rolling_update.proofs.Filling.{filled_unless_lacking}
use Rattle.rolling_update.proofs.laws.filled_unless_lacking.Goals as goal

pub returns : goal.returns
returns c = filled_unless_lacking
