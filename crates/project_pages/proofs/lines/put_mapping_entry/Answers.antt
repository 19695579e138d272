use Rattle.std.proofs.Common.{List, ℕ, map}
use Rattle.std.proofs.lemmas.Result.{on_ok_weaker}
use Rattle.project_print.specs.Pages.{shown}
use Rattle.project_print.specs.declared.node.Node.{Node}
use Rattle.project_print.specs.declared.node.Node.TheVariants.{Map}
use Rattle.project_print.proofs.Blocks.{keyed}
use Rattle.project_pages.proofs.PageLines.{is_block_of}
use Rattle.project_pages.proofs.lines.put_mapping_entry.Goals as goal

pub returns : goal.returns
returns g c =
    on_ok_weaker c.put_mapping_lines.result (keyed c.args.depth c.in_ok-below.below c.args.out.now _ _ c.args.key.now _
    (shown (Map (map {B = List ℕ × Node} (λ item. (g.T.Keyed.name item, g.T.ToNode.shown item)) c.args.items.now)))
    c.in_ok-below.ensures (is_block_of g.T.Keyed.name g.T.ToNode.shown c.is_empty.result c.args.items.now c.is_empty.ensures)
    c.in_ok-put_key.ensures) c.put_mapping_lines.ensures
