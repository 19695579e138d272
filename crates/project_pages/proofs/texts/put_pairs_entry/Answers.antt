use Rattle.std.proofs.lemmas.Result.{on_ok_weaker}
use Rattle.project_print.specs.Pages.{shown}
use Rattle.project_print.proofs.Blocks.{keyed}
use Rattle.project_pages.specs.AttributePages.{pairs_node}
use Rattle.project_pages.proofs.PageLines.{pairs_block}
use Rattle.project_pages.proofs.texts.put_pairs_entry.Goals as goal

pub returns : goal.returns
returns c =
    on_ok_weaker c.put_pairs.result (keyed c.args.depth c.in_ok-below.below c.args.out.now _ _ c.args.key.now _ (shown (pairs_node c.args.pairs.now))
    c.in_ok-below.ensures (pairs_block c.is_empty.result c.args.pairs.now c.is_empty.ensures) c.in_ok-put_key.ensures) c.put_pairs.ensures
