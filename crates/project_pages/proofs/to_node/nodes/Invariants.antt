use Rattle.std.proofs.Common.{◌≡◌, map, take}
use Rattle.project_pages.proofs.to_node.nodes.Given as goal

abbrev pub invariant-loop-item : goal.invariant-loop-item
invariant-loop-item g l = l.nodes ≡ map g.T.ToNode.shown (take l.item-index l.items)
