use Rattle.laws_attributes.proofs.LongTrees.{accepted_trees_long}
use Rattle.laws_attributes.proofs.accepted.accepted_trees_are_long.Goals as goal

pub returns : goal.returns
returns c = accepted_trees_long
