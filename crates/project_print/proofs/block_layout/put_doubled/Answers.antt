use Rattle.std.proofs.Common.{◌≡◌, ◌∙◌, ◌++◌, sym, ap}
use Rattle.std.proofs.lemmas.Result.{on_ok_weaker}
use Rattle.project_print.specs.Scalars.{scalar}
use Rattle.project_print.proofs.Letters.{no_dollars}
use Rattle.project_print.proofs.block_layout.put_doubled.Goals as goal

pub returns-else-has_dollar : goal.returns-else-has_dollar
returns-else-has_dollar c =
    on_ok_weaker c.put_scalar-else-has_dollar.result (λ e. e ∙ ap (λ x. c.args.out.now ++ scalar x) (sym (no_dollars c.args.text.now (rw c.as_bytes.ensures.value at (sym c.has_dollar.ensures ∙ c.if-has_dollar.false))))) c.put_scalar-else-has_dollar.ensures
