use Rattle.std.proofs.Common.{◌≡◌, ◌+◌, drop, sum_by}
use Rattle.tree_base.specs.Trees.{node_count, text_size}
use Rattle.tree_base.proofs.tree.Tree.+room.Given as goal

abbrev pub invariant-all_room_left-loop-tree : goal.invariant-all_room_left-loop-tree
invariant-all_room_left-loop-tree l = (l.left + sum_by node_count l.trees ≡ l.fn.nodes + sum_by node_count (drop l.tree-index l.trees)) × (l.unread + sum_by text_size l.trees ≡ l.fn.bytes + sum_by text_size (drop l.tree-index l.trees))
