use Rattle.std.proofs.Common.{◌∙◌, ap}
use Rattle.std.specs.Result.{result_ok}
use Rattle.short_forms.specs.Durations.{duration_of}
use Rattle.attribute_scalars.proofs.Given.{ok_again}
use Rattle.attribute_scalars.proofs.scalars.duration_of.Goals as goal

pub returns : goal.returns
returns c = c.ok.ensures.value ∙ ap result_ok c.duration.ensures ∙ ok_again (duration_of c.args.text.now) _
