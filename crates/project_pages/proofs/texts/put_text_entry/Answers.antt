use Rattle.std.proofs.Common.{◌∙◌, ◌++◌, codes, ap, append_assoc}
use Rattle.std.proofs.lemmas.Result.{on_ok_weaker}
use Rattle.project_print.specs.Pages.{shown}
use Rattle.project_print.specs.Scalars.{doubled, scalar}
use Rattle.project_print.specs.declared.node.Node.TheVariants.{Text}
use Rattle.project_print.proofs.Blocks.{keyed, text_is_word, text_line}
use Rattle.project_pages.proofs.texts.put_text_entry.Goals as goal

pub returns : goal.returns
returns c =
    on_ok_weaker c.put_text.result (λ e. keyed c.args.depth c.in_ok-below.below c.args.out.now _ _ c.args.key.now _ (shown (Text c.args.text.now))
    c.in_ok-below.ensures (text_is_word c.args.text.now) c.in_ok-put_key.ensures
    (e ∙ append_assoc c.put_key.new.out (scalar (doubled c.args.text.now)) (codes "\n") ∙ ap (λ x. c.put_key.new.out ++ x) (text_line c.in_ok-below.below c.args.text.now))) c.put_text.ensures
