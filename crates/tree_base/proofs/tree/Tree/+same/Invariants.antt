use Rattle.std.proofs.Common.{◌≡◌, take, length}
use Rattle.tree_base.proofs.tree.Tree.+same.Given as goal

abbrev pub invariant-all_same-loop-item : goal.invariant-all_same-loop-item
invariant-all_same-loop-item l = (l.at ≡ l.item-index) × (length l.items ≡ length l.others) × (take l.item-index l.items ≡ take l.item-index l.others)
