use Rattle.merge_rules.proofs.Sames.{decided}
use Rattle.merge_rules.proofs.keys.are_same.Goals as goal

pub returns : goal.returns
returns c = decided c.args.tree.now c.args.other.now c.same.result c.same.ensures
