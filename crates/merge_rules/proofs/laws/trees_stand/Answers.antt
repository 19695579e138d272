use Rattle.merge_rules.proofs.Unchanged.{trees_stand}
use Rattle.merge_rules.proofs.laws.trees_stand.Goals as goal

pub returns : goal.returns
returns c = trees_stand
