use Rattle.std.proofs.Common.{◌≡◌, take}
use Rattle.tree_base.proofs.try_copy.copy_slice.Given as goal

abbrev pub invariant-loop-item : goal.invariant-loop-item
invariant-loop-item g l = l.copies ≡ take l.item-index l.items
