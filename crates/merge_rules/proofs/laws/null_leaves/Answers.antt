use Rattle.merge_rules.proofs.MergedTrees.{null_leaves}
use Rattle.merge_rules.proofs.laws.null_leaves.Goals as goal

pub returns : goal.returns
returns c = null_leaves
