use Rattle.std.proofs.Common.{◌≡◌, ◌+◌, ◌∙◌, ap, sym, map, arith}
use Rattle.tree_base.specs.Trees.{depth, greatest}
use Rattle.tree_base.proofs.Measures.{depth_of_map}
use Rattle.tree_base.proofs.tree.Tree.+depth.Goals as goal

pub is_within_depth-returns-then-levels-ge1 : goal.is_within_depth-returns-then-levels-ge1
is_within_depth-returns-then-levels-ge1 t c =
    let same : depth c.args.self.now ≡ 1 + greatest (map depth c.values.result.now) =
    ap depth c.in-Map.is ∙ depth_of_map c.in-Map.entries ∙ ap (λ l. 1 + greatest (map depth l)) (sym c.values.ensures) in
    (λ h. omega (arith, c.are_within_depth.ensures.0 h), λ h. c.are_within_depth.ensures.1 (omega arith))
