use Rattle.std.proofs.Common.{◌∙◌, arith}
use Rattle.std.proofs.lemmas.List.{take_rest}
use Rattle.yaml_lines.proofs.QuoteSteps.{long_escape}
use Rattle.yaml_lines.proofs.escape.escaped_char.Goals as goal

pub returns-in-U-clause-is : goal.returns-in-U-clause-is
returns-in-U-clause-is c =
    let cs = c.args.chars.now in
    let is = rw (take_rest cs 1) at c.of_digits-in-U.ensures.is in
    is ∙ long_escape cs c.c-item.result (omega arith) c.c-item.is c.in-U.is
