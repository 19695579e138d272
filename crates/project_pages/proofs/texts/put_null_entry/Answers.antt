use Rattle.std.proofs.Common.{◌∙◌, ◌++◌, ap}
use Rattle.std.proofs.lemmas.Result.{on_ok_weaker}
use Rattle.project_print.specs.Pages.{shown}
use Rattle.project_print.specs.declared.node.Node.TheVariants.{Null}
use Rattle.project_print.proofs.Blocks.{keyed, null_is_word, null_line}
use Rattle.project_pages.proofs.texts.put_null_entry.Goals as goal

pub returns : goal.returns
returns c =
    on_ok_weaker c.push_str.result (λ e. keyed c.args.depth c.in_ok-below.below c.args.out.now _ _ c.args.key.now _ (shown Null)
    c.in_ok-below.ensures null_is_word c.in_ok-put_key.ensures
    (e ∙ ap (λ x. c.put_key.new.out ++ x) (null_line c.in_ok-below.below))) c.push_str.ensures.ok
