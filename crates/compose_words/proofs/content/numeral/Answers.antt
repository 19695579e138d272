use Rattle.std.proofs.Common.{sym, ◌∙◌}
use Rattle.compose_words.proofs.NumeralLemmas.{numeral_parsed}
use Rattle.compose_words.proofs.content.numeral.Goals as goal

pub returns : goal.returns
returns c = numeral_parsed c.args.text.now c.parse.result c.ok.result c.parse.ensures.value.0 (sym c.is_digits.ensures ∙ c.if-not-is_digits.false) c.ok.ensures.value
