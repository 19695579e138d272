use Rattle.std.proofs.Common.{◌∙◌, ap, arith}
use Rattle.std.proofs.lemmas.List.{take_rest}
use Rattle.yaml_nodes.proofs.LenSteps.{with_quote, quoted}
use Rattle.yaml_nodes.proofs.quotes.quoted_len.Goals as goal

pub returns-in-None-clause-is : goal.returns-in-None-clause-is
returns-in-None-clause-is c =
    let cs = c.args.chars.now in
    let is = rw (take_rest cs 1) at c.in-None.ensures.is in
    ap with_quote is ∙ quoted cs c.quote-item.result (omega arith) c.quote-item.is

pub returns-in-Some-clause-is : goal.returns-in-Some-clause-is
returns-in-Some-clause-is c =
    let cs = c.args.chars.now in
    let is = rw (take_rest cs 1) at c.in-Some.ensures.is in
    ap with_quote is ∙ quoted cs c.quote-item.result (omega arith) c.quote-item.is
