use Rattle.std.proofs.Common.{◌≡◌, ◌+◌, ◌*◌, ◌-◌, ◌^◌, ◌≤◌, ◌∙◌, ap, sym, length, arith}
use Rattle.std.specs.Char.{is_ascii_digit}
use Rattle.std.specs.List.{list_all}
use Rattle.std.specs.Str.Parse.{digits_value}
use Rattle.short_forms.proofs.DigitLemmas.{digits_cut, halves, padded-lt, within_limit}
use Rattle.short_forms.proofs.FixedLemmas.{scaled_within}
use Rattle.short_forms.proofs.durations.fixed_point.Goals as goal

pub invariant_of-result : goal.invariant_of-result
invariant_of-result c =
    let fraction = c.args.fraction.now in
    let whole = within_limit (9 * 10 ^ 15) c.args.whole.now c.in_ok-whole.whole c.requires.whole (sym c.in_ok-whole.ensures) in
    let upper = c.split_at.result.0.now in
    let lower = c.split_at.result.1.now in
    let digits = digits_cut fraction c.min.result c.requires.fraction in
    record {
      whole_in_range = omega (arith, whole.0, whole.1);
      upper_in_range = omega (arith, c.padded.ensures, padded-lt upper 20 (ap (list_all is_ascii_digit) c.split_at.ensures.front ∙ digits.0) (omega arith));
      lower_in_range = omega (arith, c.padded-2.ensures, padded-lt lower 19 (ap (list_all is_ascii_digit) c.split_at.ensures.back ∙ digits.1) (omega arith));
    }

pub returns : goal.returns
returns c =
    let fraction = c.args.fraction.now in
    let whole = within_limit (9 * 10 ^ 15) c.args.whole.now c.in_ok-whole.whole c.requires.whole (sym c.in_ok-whole.ensures) in
    let small : c.in_ok-whole.whole ≤ 9 * 10 ^ 15 = omega (arith, whole.0, whole.1) in
    let parts : c.padded.result * 10 ^ 19 + c.padded-2.result ≡ digits_value 10 fraction * 10 ^ (39 - length fraction) =
    rw (c.padded.ensures, c.padded-2.ensures, c.split_at.ensures.front, c.split_at.ensures.back) (halves fraction c.min.result c.requires.few c.min.ensures) in
    scaled_within c.args.whole.now fraction c.in_ok-whole.whole c.padded.result c.padded-2.result whole.1 small parts (padded-lt fraction 39 c.requires.fraction c.requires.few)
