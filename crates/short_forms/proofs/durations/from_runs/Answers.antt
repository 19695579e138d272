use Rattle.std.proofs.Common.{◌≡◌, ◌∙◌, true, false, ap, sym, drop, eqb}
use Rattle.std.proofs.lemmas.Bool.{cond-true, cond-false}
use Rattle.std.specs.List.{list_all}
use Rattle.std.specs.Option.{option_and_then}
use Rattle.short_forms.specs.Digits.{scaled}
use Rattle.short_forms.specs.FixedPoint.{capped}
use Rattle.short_forms.proofs.DigitLemmas.{drop_up_to, take_up_to}
use Rattle.short_forms.proofs.durations.from_runs.Goals as goal

pub returns-then-are_zeros : goal.returns-then-are_zeros
returns-then-are_zeros c =
    let fraction = c.args.fraction.now in
    let back = c.split_at.ensures.back ∙ drop_up_to 39 c.min.result fraction c.min.ensures in
    let zeros : list_all (λ b. eqb b 48) (drop 39 fraction) ≡ true = ap (list_all (λ b. eqb b 48)) (sym back) ∙ sym c.are_zeros.ensures ∙ c.if-are_zeros.true in
    c.fixed_point.ensures ∙ ap (λ f. capped (scaled 39 c.args.whole.now f)) (c.split_at.ensures.front ∙ take_up_to 39 c.min.result fraction c.min.ensures)
    ∙ sym (ap (option_and_then capped) (cond-true _ _ _ zeros))

pub returns-else-are_zeros : goal.returns-else-are_zeros
returns-else-are_zeros c =
    let fraction = c.args.fraction.now in
    let back = c.split_at.ensures.back ∙ drop_up_to 39 c.min.result fraction c.min.ensures in
    let some : list_all (λ b. eqb b 48) (drop 39 fraction) ≡ false = ap (list_all (λ b. eqb b 48)) (sym back) ∙ sym c.are_zeros.ensures ∙ c.if-are_zeros.false in
    sym (ap (option_and_then capped) (cond-false _ _ _ some))
