use Rattle.std.proofs.Common.{◌≡◌, ◌∷◌, ◌+◌, ◌*◌, ◌^◌, ◌∙◌, sym, refl, None, Some}
use Rattle.short_forms.specs.Durations.{amounts}
use Rattle.short_forms.proofs.FixedLemmas.{left_more, left_stops}
use Rattle.short_forms.proofs.durations.sum.Goals as goal

pub returns-in_err-total : goal.returns-in_err-total
returns-in_err-total c =
    let t = c.loop-rest.total in
    let cut : amounts c.loop-rest.rest.now ≡ c.split_at.result.0.now ∷ amounts c.split_at.result.1.now =
    c.amount_len.ensures.first ∙ (λ i. sym c.split_at.ensures.front i ∷ amounts (sym c.split_at.ensures.back i)) in
    c.from_residual.ensures
    ∙ sym (left_stops (t.0 * 10 ^ 39 + t.1.0 * 10 ^ 19 + t.1.1.0) c.loop-rest.rest.now c.split_at.result.0.now c.split_at.result.1.now None cut c.in_err-total.ensures refl)
    ∙ c.loop-rest.invariant.sum

pub loop-rest-preserved : goal.loop-rest-preserved
loop-rest-preserved c =
    let t = c.loop-rest.total in
    let cut : amounts c.loop-rest.rest.now ≡ c.split_at.result.0.now ∷ amounts c.split_at.result.1.now =
    c.amount_len.ensures.first ∙ (λ i. sym c.split_at.ensures.front i ∷ amounts (sym c.split_at.ensures.back i)) in
    record {
      whole = c.in_ok-total.total.whole_in_range;
      upper = c.in_ok-total.total.upper_in_range;
      lower = c.in_ok-total.total.lower_in_range;
      sum = left_more (t.0 * 10 ^ 39 + t.1.0 * 10 ^ 19 + t.1.1.0) c.loop-rest.rest.now c.split_at.result.0.now c.split_at.result.1.now (Some c.in_ok-total.total) cut c.in_ok-total.ensures c.in_ok-total.total refl
          ∙ c.loop-rest.invariant.sum;
    }
