use Rattle.std.proofs.Common.{◌≡◌, ◌∙◌, ap, sym, length, take, drop, arith}
use Rattle.std.proofs.lemmas.List.Folds.{length-prefix_len}
use Rattle.std.proofs.lemmas.List.Sums.{prefix_len-le-length}
use Rattle.std.specs.List.{take_while}
use Rattle.std.specs.Option.{option_and_then}
use Rattle.short_forms.specs.Digits.{digit_runs}
use Rattle.short_forms.specs.Durations.{is_of_number, parts_in, unit_micros}
use Rattle.short_forms.specs.FixedPoint.{capped, parts_of}
use Rattle.short_forms.proofs.FixedLemmas.{no_number, no_unit, sum_given}
use Rattle.short_forms.proofs.durations.with_amount.Goals as goal

pub split_at-requires : goal.split_at-requires
split_at-requires c = omega (arith, c.number_len.ensures, prefix_len-le-length is_of_number c.args.amount.now)

pub returns-in_err-micros : goal.returns-in_err-micros
returns-in_err-micros c =
    let amount = c.args.amount.now in
    let back : c.split_at.result.1.now ≡ drop (length (take_while is_of_number amount)) amount =
    c.split_at.ensures.back ∙ ap (λ n. drop n amount) (c.number_len.ensures ∙ sym (length-prefix_len is_of_number amount)) in
    rw c.from_residual.ensures (no_unit (parts_of c.args.total.now) (option_and_then parts_in (digit_runs (take_while is_of_number amount)))
    (unit_micros (drop (length (take_while is_of_number amount)) amount)) (ap unit_micros (sym back) ∙ sym c.in_err-micros.ensures.value))

pub returns-in_err-number : goal.returns-in_err-number
returns-in_err-number c =
    let amount = c.args.amount.now in
    let front : c.split_at.result.0.now ≡ take_while is_of_number amount = c.split_at.ensures.front ∙ ap (λ n. take n amount) c.number_len.ensures in
    let back : c.split_at.result.1.now ≡ drop (length (take_while is_of_number amount)) amount =
    c.split_at.ensures.back ∙ ap (λ n. drop n amount) (c.number_len.ensures ∙ sym (length-prefix_len is_of_number amount)) in
    rw c.from_residual-in_err-number.ensures (no_number (parts_of c.args.total.now) c.in_ok-micros.micros (option_and_then parts_in (digit_runs (take_while is_of_number amount)))
    (unit_micros (drop (length (take_while is_of_number amount)) amount)) (ap unit_micros (sym back) ∙ sym c.in_ok-micros.ensures.value) c.in_ok-micros.ensures.range.0
    (ap (λ t. option_and_then capped (option_and_then parts_in (digit_runs t))) (sym front) ∙ sym c.in_err-number.ensures))

pub returns : goal.returns
returns c =
    let amount = c.args.amount.now in
    let front : c.split_at.result.0.now ≡ take_while is_of_number amount = c.split_at.ensures.front ∙ ap (λ n. take n amount) c.number_len.ensures in
    let back : c.split_at.result.1.now ≡ drop (length (take_while is_of_number amount)) amount =
    c.split_at.ensures.back ∙ ap (λ n. drop n amount) (c.number_len.ensures ∙ sym (length-prefix_len is_of_number amount)) in
    c.plus.ensures ∙ sum_given (parts_of c.args.total.now) (parts_of c.in_ok-number.number) c.in_ok-micros.micros (option_and_then parts_in (digit_runs (take_while is_of_number amount)))
    (unit_micros (drop (length (take_while is_of_number amount)) amount)) (ap unit_micros (sym back) ∙ sym c.in_ok-micros.ensures.value)
    (ap (λ t. option_and_then capped (option_and_then parts_in (digit_runs t))) (sym front) ∙ sym c.in_ok-number.ensures)
