use Rattle.std.proofs.Common.{◌≡◌, map, take}
use Rattle.project_pages.specs.AttributePages.{kept_node}
use Rattle.project_pages.proofs.kept.+keeping.Given as goal

abbrev pub invariant-kept_nodes-loop-tree : goal.invariant-kept_nodes-loop-tree
invariant-kept_nodes-loop-tree l = l.nodes ≡ map kept_node (take l.tree-index l.trees)
