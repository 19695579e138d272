use Rattle.std.proofs.Common.{◌≡◌, map, take}
use Rattle.project_pages.proofs.Keys.{entry_of}
use Rattle.project_pages.proofs.to_node.mapping.Given as goal

abbrev pub invariant-loop-item : goal.invariant-loop-item
invariant-loop-item g l = l.entries ≡ take l.item-index (map (entry_of g.T.Keyed.name g.T.ToNode.shown) l.items)
