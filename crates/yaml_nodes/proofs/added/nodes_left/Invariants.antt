use Rattle.std.proofs.Common.{◌≡◌, ◌+◌, drop, sum_by}
use Rattle.tree_base.specs.Trees.{node_count}
use Rattle.yaml_nodes.proofs.added.nodes_left.Given as goal

abbrev pub invariant-loop-tree : goal.invariant-loop-tree
invariant-loop-tree l = l.left + sum_by node_count l.trees ≡ l.fn.budget + sum_by node_count (drop l.tree-index l.trees)
