use Rattle.std.proofs.Common.{◌≡◌, ◌≤◌, ◌∙◌, ◌++◌, eqb, false, sym, ap, arith}
use Rattle.std.proofs.lemmas.Result.{on_ok_weaker}
use Rattle.project_print.proofs.Letters.{escaped_same}
use Rattle.project_print.proofs.scalar.put_escaped.Goals as goal

pub returns-in_default : goal.returns-in_default
returns-in_default c =
    let past : 32 ≤ c.args.c = omega arith in
    let p : eqb c.args.c 34 ≡ false = grind arith in
    let q : eqb c.args.c 92 ≡ false = grind arith in
    let r : eqb c.args.c 127 ≡ false = grind arith in
    on_ok_weaker c.push.result (λ e. e ∙ ap (λ x. c.args.out.now ++ x) (sym (escaped_same c.args.c past p q r))) c.push.ensures.ok
