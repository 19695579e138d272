use Rattle.std.proofs.Common.{◌≢◌, ◌∙◌, ◌+◌, ap, sym, subst, List, [], ℕ, Option, length, arith, rules, Result, IsOk}
use Rattle.std.proofs.lemmas.Result.{err_from_is_err_and}
use Rattle.tree_base.specs.Entries.{value_at}
use Rattle.interpolate.specs.declared.refusal.SubstRefusal.{SubstRefusal}
use Rattle.interpolate.specs.Heads.{IsClosed, own}
use Rattle.interpolate.specs.Shapes.{part_len}
use Rattle.interpolate.specs.Parts.{parts}
use Rattle.interpolate.specs.Substitution.{text_value, appended, Fails}
use Rattle.interpolate.proofs.Joining.{form_value_below, join_done, join_fails, join_fine, join_more, tail_fine}
use Rattle.interpolate.proofs.Stepping.{after_tail, ended, first_value_own, not_ended, step_fine, tail_closed, tail_inside, tail_own}
use Rattle.interpolate.proofs.join.+join.Goals as goal

pub join-returns-in_err-more-clause-value : goal.join-returns-in_err-more-clause-value
join-returns-in_err-more-clause-value t c =
    let a = c.args in
    let l = c.loop-rest in
    let env = value_at a.env.now in
    let some : own a.inside l.rest.now ≢ [] = not_ended a.inside l.rest.now (search rules) in
    let p = err_from_is_err_and c.from_residual.result c.from_residual.ensures.1 in
    let e = c.in_err-more.field-0.0 in
    let first = first_value_own a.levels env l.at a.inside l.rest.now l.invariant.closed some in
    let failed = subst (λ (r : Result (List ℕ) SubstRefusal). Fails e (appended l.out r)) (sym first) c.in_err-more.ensures.value in
    rw (p.1, p.2) (subst (λ (r : Result (Option (List ℕ)) SubstRefusal). Fails e r) l.invariant.same
    (join_fails a.levels env l.at (own a.inside l.rest.now) l.out e some l.invariant.fine failed))

pub join-loop-rest-preserved : goal.join-loop-rest-preserved
join-loop-rest-preserved t c =
    let a = c.args in
    let l = c.loop-rest in
    let n = c.in_ok-more.more in
    let env = value_at a.env.now in
    let some : own a.inside l.rest.now ≢ [] = not_ended a.inside l.rest.now (search rules) in
    let f = c.in_ok-more.ensures in
    let own_rest = own a.inside l.rest.now in
    let step = step_fine a.levels l.at a.inside l.rest.now n l.invariant.closed some f.len l.invariant.fine f.cut.1.0 in
    let value = c.rest_from-rest.ensures.value in
    let first = first_value_own a.levels env l.at a.inside l.rest.now l.invariant.closed some in
    record {
      utf8 = c.rest_from-rest.utf8;
      closed = subst (IsClosed a.inside) (sym value) step.closed;
      few = omega (arith, l.invariant.few);
      places = omega (arith, f.cut.1.0);
      fine = rw (value, step.same) (join_fine a.levels env l.at own_rest n some f.len f.cut.0 step.within l.invariant.fine);
      size = rw value (omega (arith, step.size, l.invariant.size));
      same =
          ap (λ (text : List ℕ). appended c.join_part.new.out (text_value (parts a.levels) env (l.at + n) (own a.inside text))) value
          ∙ ap (λ (text : List ℕ). appended c.join_part.new.out (text_value (parts a.levels) env (l.at + n) text)) step.same
          ∙ join_more a.levels env l.at own_rest n some f.len f.cut.0 step.within l.invariant.fine l.out c.join_part.new.out (ap (appended l.out) first ∙ f.value)
          ∙ l.invariant.same;
    }

pub join-returns : goal.join-returns
join-returns t c =
    let a = c.args in
    let l = c.loop-rest in
    let none = ended a.inside l.rest.now (search rules) in
    record {
      value = sym l.invariant.same ∙ join_done a.levels (value_at a.env.now) l.at (own a.inside l.rest.now) l.out none;
      len = omega (arith, ap length none, l.invariant.size);
    }

pub join_part-join_form-requires : goal.join_part-join_form-requires
join_part-join_form-requires t c =
    let a = c.args in
    let f = c.in-Form in
    let rest = c.rest_from-tail in
    let start = c.tail_start-start.ensures in
    let some : own a.inside a.text.now ≢ [] = search rules in
    let closed : IsClosed a.inside a.text.now = search rules in
    let fine : IsOk (parts a.levels a.at (own a.inside a.text.now)) = search rules in
    let own_tail = tail_own a.levels a.inside a.text.now closed some f.name f.colon f.action _ c.tail_start-start.result rest.result.now f.ensures.is start rest.ensures.value in (
      search rules,
      (
        omega (arith, rest.ensures.len),
        (
          tail_closed a.text.now rest.result.now f.name f.colon c.tail_start-start.result start rest.ensures.value f.ensures.fits.2.after_cut.0,
          tail_fine a.levels a.at (own a.inside a.text.now) _ f.name f.colon f.action _ c.tail_start-start.result some fine f.ensures.is f.ensures.fits.0 start own_tail,
        ),
      ),
    )

pub join_part-returns-in_err-len-in-Form-clause-value : goal.join_part-returns-in_err-len-in-Form-clause-value
join_part-returns-in_err-len-in-Form-clause-value t c =
    let a = c.args in
    let f = c.in-Form in
    let p = err_from_is_err_and c.from_residual-in_err-len-in-Form.result c.from_residual-in_err-len-in-Form.ensures.1 in
    let e = c.in_err-len-in-Form.field-0.0 in
    let below = form_value_below a.levels (value_at a.env.now) a.at a.text.now c.rest_from-tail.result.now c.in_ok-name-in-Form.name f.name f.colon f.action c.tail_start-start.result _ f.ensures.is f.ensures.fits.0 c.tail_start-start.ensures c.rest_from-tail.ensures.value (c.in_ok-name-in-Form.ensures ∙ c.piece-in-Form.ensures.value) in
    rw (p.1, p.2) (subst (λ (r : Result (List ℕ) SubstRefusal). Fails e (appended a.out.now r)) (sym below) c.in_err-len-in-Form.ensures.value)

pub join_part-returns-in_ok-len-in-Form : goal.join_part-returns-in_ok-len-in-Form
join_part-returns-in_ok-len-in-Form t c =
    let a = c.args in
    let f = c.in-Form in
    let rest = c.rest_from-tail in
    let start = c.tail_start-start.ensures in
    let below = form_value_below a.levels (value_at a.env.now) a.at a.text.now rest.result.now c.in_ok-name-in-Form.name f.name f.colon f.action c.tail_start-start.result _ f.ensures.is f.ensures.fits.0 start rest.ensures.value (c.in_ok-name-in-Form.ensures ∙ c.piece-in-Form.ensures.value) in
    let same = c.in_ok-len-in-Form.ensures.len ∙ tail_inside a.text.now rest.result.now f.name f.colon c.tail_start-start.result start rest.ensures.value in
    record {
      value = ap (appended a.out.now) below ∙ c.in_ok-len-in-Form.ensures.value;
      len = (λ i. start i + same i + 1) ∙ ap part_len f.ensures.is;
      cut = (omega arith, after_tail a.text.now c.tail_start-start.result c.in_ok-len-in-Form.len _ _ start same f.ensures.fits.2.after_cut);
    }
