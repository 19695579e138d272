use Rattle.laws_attributes.proofs.ShapedTrees.{accepted_trees_shaped}
use Rattle.laws_attributes.proofs.accepted.accepted_trees_are_shaped.Goals as goal

pub returns : goal.returns
returns c = accepted_trees_shaped
