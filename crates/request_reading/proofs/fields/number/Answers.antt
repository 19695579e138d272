-- One digit more.
use Rattle.std.proofs.Common.{get_or, arith}
use Rattle.std.proofs.lemmas.Int.Digits.{digits_value_more}
use Rattle.request_reading.proofs.Lengths.{digit_at, digit_is}
use Rattle.request_reading.proofs.fields.number.Goals as goal

pub loop-digit-preserved : goal.loop-digit-preserved
loop-digit-preserved c =
    let d = digit_is (get_or c.args.digits.now c.loop-digit.digit-index 0) (digit_at c.args.digits.now c.loop-digit.digit-index c.requires c.loop-digit-test.true) in
    let v = digits_value_more 10 c.args.digits.now c.loop-digit.digit-index c.loop-digit-test.true in
    omega (arith, d.0, d.1, v, c.loop-digit.invariant, c.saturating_mul.ensures, c.saturating_add-number.ensures, c.from.ensures)
