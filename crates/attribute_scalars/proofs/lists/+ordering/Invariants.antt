use Rattle.std.proofs.Common.{◌≡◌, map, take}
use Rattle.attribute_scalars.specs.Lists.{ordered}
use Rattle.attribute_scalars.proofs.lists.+ordering.Given as goal

abbrev pub invariant-ordered_items-loop-item : goal.invariant-ordered_items-loop-item
invariant-ordered_items-loop-item l = l.trees ≡ map ordered (take l.item-index l.items)
