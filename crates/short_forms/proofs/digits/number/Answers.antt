use Rattle.std.proofs.Common.{◌<◌, ◌+◌, ◌*◌, get_or, length, sym, ◌∙◌, ap, arith, rules}
use Rattle.std.proofs.lemmas.Bool.{and_from}
use Rattle.std.proofs.lemmas.Int.Digits.{digits_value_more}
use Rattle.std.proofs.lemmas.List.Folds.{list_all_more}
use Rattle.std.specs.Char.{digit_value, is_ascii_digit}
use Rattle.short_forms.proofs.DigitLemmas.{limit_none, limit_some, too_large, value_more-le}
use Rattle.short_forms.proofs.digits.number.Goals as goal

pub returns-in_err-value : goal.returns-in_err-value
returns-in_err-value c =
    let text = c.args.text.now in
    let i = c.loop-digit.digit-index in
    let within : i < length text = omega arith in
    let over : c.args.most < c.loop-digit.value * 10 + digit_value (get_or text i 0) = limit_none _ _ (sym c.in_err-value.ensures) in
    rw c.from_residual.ensures (sym (too_large c.args.most text (omega (arith, c.loop-digit.invariant.value, value_more-le text i within))))

pub loop-digit-preserved : goal.loop-digit-preserved
loop-digit-preserved c =
    let text = c.args.text.now in
    let i = c.loop-digit.digit-index in
    let within : i < length text = omega arith in
    let fits = limit_some _ _ _ (sym c.in_ok-value.ensures) in
    record {
      digits = list_all_more is_ascii_digit text i 0 within ∙ and_from _ _ c.loop-digit.invariant.digits (search rules);
      value = fits.1 ∙ ap (λ n. n * 10 + digit_value (get_or text i 0)) c.loop-digit.invariant.value ∙ sym (digits_value_more 10 text i within);
      small = omega (arith, fits.0, fits.1);
    }
