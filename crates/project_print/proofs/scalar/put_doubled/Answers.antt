use Rattle.std.proofs.Common.{◌∙◌, ◌++◌, sym, ap}
use Rattle.std.proofs.lemmas.Bool.{ne_eqb}
use Rattle.std.proofs.lemmas.Result.{on_ok_weaker}
use Rattle.project_print.proofs.Letters.{doubled_same}
use Rattle.project_print.proofs.scalar.put_doubled.Goals as goal

pub returns-else-c-eq36 : goal.returns-else-c-eq36
returns-else-c-eq36 c =
    on_ok_weaker c.push.result (λ e. e ∙ ap (λ x. c.args.out.now ++ x) (sym (doubled_same c.args.c (ne_eqb c.args.c 36 c.if-c-eq36.false)))) c.push.ensures.ok
