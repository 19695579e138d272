use Rattle.std.proofs.lemmas.Result.{on_ok_weaker}
use Rattle.project_print.specs.Pages.{shown}
use Rattle.project_print.proofs.Blocks.{keyed}
use Rattle.project_pages.specs.AttributePages.{texts_node}
use Rattle.project_pages.proofs.PageLines.{texts_block}
use Rattle.project_pages.proofs.texts.put_texts_entry.Goals as goal

pub returns : goal.returns
returns c =
    on_ok_weaker c.put_texts.result (keyed c.args.depth c.in_ok-below.below c.args.out.now _ _ c.args.key.now _ (shown (texts_node c.args.texts.now))
    c.in_ok-below.ensures (texts_block c.is_empty.result c.args.texts.now c.is_empty.ensures) c.in_ok-put_key.ensures) c.put_texts.ensures
