use Rattle.std.proofs.Common.{◌≡◌, ◌+◌, drop, sum_by}
use Rattle.tree_base.specs.Trees.{text_size}
use Rattle.yaml_nodes.proofs.added.text_left.Given as goal

abbrev pub invariant-loop-tree : goal.invariant-loop-tree
invariant-loop-tree l = l.left + sum_by text_size l.trees ≡ l.fn.budget + sum_by text_size (drop l.tree-index l.trees)
