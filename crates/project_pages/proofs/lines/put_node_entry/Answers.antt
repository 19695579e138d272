use Rattle.std.proofs.lemmas.Result.{on_ok_weaker}
use Rattle.project_print.specs.Pages.{shown}
use Rattle.project_print.proofs.Blocks.{keyed}
use Rattle.project_pages.proofs.lines.put_node_entry.Goals as goal

pub returns : goal.returns
returns c =
    on_ok_weaker c.put_node.result (keyed c.args.depth c.in_ok-below.below c.args.out.now _ _ c.args.key.now c.is_block.result (shown c.args.node.now) c.in_ok-below.ensures c.is_block.ensures c.in_ok-put_key.ensures) c.put_node.ensures
