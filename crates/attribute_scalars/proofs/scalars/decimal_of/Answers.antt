use Rattle.std.proofs.Common.{◌∙◌, ap}
use Rattle.std.specs.Result.{result_ok}
use Rattle.short_forms.specs.Decimals.{decimal_of}
use Rattle.attribute_scalars.proofs.Given.{ok_again}
use Rattle.attribute_scalars.proofs.scalars.decimal_of.Goals as goal

pub returns : goal.returns
returns c = c.ok.ensures.value ∙ ap result_ok c.decimal.ensures ∙ ok_again (decimal_of c.args.text.now) _
