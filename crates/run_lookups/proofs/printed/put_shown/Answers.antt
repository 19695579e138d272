use Rattle.std.proofs.Common.{◌≡◌, ◌∙◌, ◌++◌, false, sym, ap, arith}
use Rattle.std.proofs.lemmas.Result.{on_ok_weaker}
use Rattle.run_model.specs.Shown.{is_control}
use Rattle.run_lookups.proofs.ShownChars.{stays}
use Rattle.run_lookups.proofs.printed.put_shown.Goals as goal

pub returns-in_default : goal.returns-in_default
returns-in_default c =
    let plain : is_control c.args.c ≡ false = grind arith in
    on_ok_weaker c.push.result (λ e. e ∙ ap (λ x. c.args.out.now ++ x) (sym (stays c.args.c plain))) c.push.ensures.ok
