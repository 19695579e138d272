use Rattle.std.proofs.Common.{◌∙◌, sym}
use Rattle.short_forms.proofs.DigitLemmas.{over_size}
use Rattle.short_forms.proofs.sizes.times.Goals as goal

pub returns-in_err-count : goal.returns-in_err-count
returns-in_err-count c = c.from_residual.ensures ∙ sym (over_size c.args.digits.now c.args.unit c.requires (sym c.in_err-count.ensures))
