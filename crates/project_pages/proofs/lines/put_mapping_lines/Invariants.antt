use Rattle.std.proofs.Common.{◌≡◌, ◌++◌, drop, map}
use Rattle.project_print.specs.Written.{parts_text}
use Rattle.project_pages.proofs.PageLines.{item_lines}
use Rattle.project_pages.proofs.lines.put_mapping_lines.Given as goal

abbrev pub invariant-loop-at : goal.invariant-loop-at
invariant-loop-at g l =
    l.out ++ parts_text l.depth l.at (drop l.at (map (item_lines g.T.Keyed.name g.T.ToNode.shown) l.items))
    ≡ l.initial.out ++ parts_text l.depth 0 (map (item_lines g.T.Keyed.name g.T.ToNode.shown) l.items)
