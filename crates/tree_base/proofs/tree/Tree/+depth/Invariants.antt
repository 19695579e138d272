use Rattle.std.proofs.Common.{◌≤◌, ◌↔◌, map, drop}
use Rattle.tree_base.specs.Trees.{depth, greatest}
use Rattle.tree_base.proofs.tree.Tree.+depth.Given as goal

abbrev pub invariant-are_within_depth-loop-tree : goal.invariant-are_within_depth-loop-tree
invariant-are_within_depth-loop-tree l = (greatest (map depth l.trees) ≤ l.levels) ↔ (greatest (map depth (drop l.tree-index l.trees)) ≤ l.levels)
