use Rattle.std.proofs.Common.{arith}
use Rattle.short_forms.proofs.DigitLemmas.{padded_small}
use Rattle.short_forms.proofs.digits.padded.Goals as goal

pub overflow_mul-result : goal.overflow_mul-result
overflow_mul-result c = rw (c.value.ensures, c.pow.ensures) (omega (arith, padded_small c.args.digits.now c.args.places c.requires.digits c.requires.enough c.requires.few))
