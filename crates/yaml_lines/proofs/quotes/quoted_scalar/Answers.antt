use Rattle.std.proofs.Common.{◌∙◌, sym, ap, drop, arith}
use Rattle.std.proofs.lemmas.List.{take_rest}
use Rattle.yaml_lines.specs.Quoted.{behind_quote}
use Rattle.yaml_lines.specs.Spelling.{spelled}
use Rattle.yaml_lines.proofs.QuoteSteps.{longer, longer_spelled, opened}
use Rattle.yaml_lines.proofs.quotes.quoted_scalar.Goals as goal

pub returns-in-None-clause-is : goal.returns-in-None-clause-is
returns-in-None-clause-is c =
    let cs = c.args.chars.now in
    let rest = take_rest cs 1 in
    let read = rw rest at c.in_ok-behind_quote-in-len1-up.ensures.is in
    ap longer (sym c.in-None.is ∙ read) ∙ longer_spelled (behind_quote c.quote-item.result (drop 1 cs)) ∙ ap spelled (sym (opened cs c.quote-item.result (omega arith) c.quote-item.is))

pub returns-in-Some-clause-is : goal.returns-in-Some-clause-is
returns-in-Some-clause-is c =
    let cs = c.args.chars.now in
    let rest = take_rest cs 1 in
    let read = rw rest at c.in_ok-behind_quote-in-len1-up.ensures.is in
    ap longer (sym c.in-Some.is ∙ read) ∙ longer_spelled (behind_quote c.quote-item.result (drop 1 cs)) ∙ ap spelled (sym (opened cs c.quote-item.result (omega arith) c.quote-item.is))
