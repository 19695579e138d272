use Rattle.std.proofs.Common.{◌∙◌, Ok, ap, sym}
use Rattle.tree_base.specs.declared.Tree.{Tree, out-Tree}
use Rattle.tree_base.specs.declared.tree.Tree.TheVariants.{outs-Map}
use Rattle.attribute_rows.specs.Rows.{entries_in}
use Rattle.attribute_rows.proofs.entries.map_of.Goals as goal

pub returns-in-Map : goal.returns-in-Map
returns-in-Map c =
    ap (λ (tree : Tree). entries_in (out-Tree tree)) c.in-Map.is
    ∙ ap entries_in (outs-Map c.in-Map.entries)
    ∙ ap (λ entries. Ok entries) (sym c.get.ensures)
