use Rattle.std.proofs.Common.{◌≡◌, ◌++◌, take}
use Rattle.std.specs.List.{flat_map}
use Rattle.service_environments.specs.EnvItems.{env_item}
use Rattle.service_environments.proofs.env_item.push_items.Given as goal
use Rattle.tree_base.specs.declared.Tree.{out-Tree}

abbrev pub invariant-loop-item : goal.invariant-loop-item
invariant-loop-item l = l.items ≡ l.fn.items ++ flat_map (λ item. env_item (out-Tree item)) (take l.item-index l.found)
