use Rattle.std.proofs.Common.{◌<◌, length, arith}
use Rattle.std.proofs.lemmas.Int.Digits.{digits_value_more}
use Rattle.short_forms.proofs.DigitLemmas.{value_more-le, value_small}
use Rattle.short_forms.proofs.digits.value.Goals as goal

pub overflow_mul-value : goal.overflow_mul-value
overflow_mul-value c =
    let within : c.loop-digit.digit-index < length c.args.digits.now = omega arith in
    omega (arith, c.loop-digit.invariant, value_more-le c.args.digits.now c.loop-digit.digit-index within, value_small c.args.digits.now c.requires.digits c.requires.few)

pub overflow_add-value : goal.overflow_add-value
overflow_add-value c =
    let within : c.loop-digit.digit-index < length c.args.digits.now = omega arith in
    omega (arith, c.loop-digit.invariant, value_more-le c.args.digits.now c.loop-digit.digit-index within, value_small c.args.digits.now c.requires.digits c.requires.few)

pub loop-digit-preserved : goal.loop-digit-preserved
loop-digit-preserved c =
    let within : c.loop-digit.digit-index < length c.args.digits.now = omega arith in
    let more = digits_value_more 10 c.args.digits.now c.loop-digit.digit-index within in
    cc
