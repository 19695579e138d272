use Rattle.merge_rules.proofs.MergedTrees.{no_mark_is_left}
use Rattle.merge_rules.proofs.laws.no_mark_is_left.Goals as goal

pub returns : goal.returns
returns c = no_mark_is_left
