use Rattle.laws_merging.proofs.TreeGroups.{plain_trees_group}
use Rattle.laws_merging.proofs.grouping.plain_trees_group.Goals as goal

pub returns : goal.returns
returns c = plain_trees_group
