use Rattle.std.proofs.Common.{◌≡◌, ◌+◌, drop, sum_by}
use Rattle.tree_base.specs.Trees.{text_size}
use Rattle.tree_base.proofs.tree.Tree.+text.Given as goal

abbrev pub invariant-all_text_left-loop-tree : goal.invariant-all_text_left-loop-tree
invariant-all_text_left-loop-tree l = l.left + sum_by text_size l.trees ≡ l.fn.budget + sum_by text_size (drop l.tree-index l.trees)
