use Rattle.std.proofs.Common.{◌≡◌, ◌+◌, drop, sum_by}
use Rattle.tree_base.specs.Trees.{node_count}
use Rattle.tree_base.proofs.tree.Tree.+nodes.Given as goal

abbrev pub invariant-all_nodes_left-loop-tree : goal.invariant-all_nodes_left-loop-tree
invariant-all_nodes_left-loop-tree l = l.left + sum_by node_count l.trees ≡ l.fn.budget + sum_by node_count (drop l.tree-index l.trees)
