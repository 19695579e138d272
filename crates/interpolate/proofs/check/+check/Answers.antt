use Rattle.std.proofs.Common.{◌≢◌, ◌∙◌, ap, sym, subst, [], ◌+◌, length, arith, rules}
use Rattle.std.proofs.lemmas.Result.{err_from_is_err_and}
use Rattle.interpolate.specs.Heads.{IsClosed, own}
use Rattle.interpolate.specs.Parts.{parts, well_formed}
use Rattle.interpolate.proofs.Cutting.{check_fine, check_wrong, first_len_form, then_err}
use Rattle.interpolate.proofs.Stepping.{after_tail, check_done, ended, form_done, form_failed, not_ended, step_len, tail_closed, tail_length, tail_own}
use Rattle.interpolate.proofs.check.+check.Goals as goal

pub check-loop-rest-preserved : goal.check-loop-rest-preserved
check-loop-rest-preserved t c =
    let a = c.args in
    let l = c.loop-rest in
    let n = c.in_ok-more.more in
    let some : own a.inside l.rest.now ≢ [] = not_ended a.inside l.rest.now (search rules) in
    let f = c.in_ok-more.ensures in
    let step = step_len a.levels l.at a.inside l.rest.now n l.invariant.closed some (sym f.is) f.cut.1.0 in
    let value = c.rest_from-rest.ensures.value in
    record {
      utf8 = c.rest_from-rest.utf8;
      closed = subst (IsClosed a.inside) (sym value) step.closed;
      few = omega (arith, l.invariant.few);
      places = omega (arith, f.cut.1.0);
      size = rw value (omega (arith, step.size, l.invariant.size));
      same =
          ap (λ x. well_formed (parts a.levels (l.at + n) (own a.inside x))) value
          ∙ ap (λ x. well_formed (parts a.levels (l.at + n) x)) step.same
          ∙ check_fine a.levels l.at (own a.inside l.rest.now) n some (sym f.is) f.cut.0 step.within
          ∙ l.invariant.same;
    }

pub check-returns-in_err-more-clause-is : goal.check-returns-in_err-more-clause-is
check-returns-in_err-more-clause-is t c =
    let a = c.args in
    let l = c.loop-rest in
    let some : own a.inside l.rest.now ≢ [] = not_ended a.inside l.rest.now (search rules) in
    let p = err_from_is_err_and c.from_residual.result c.from_residual.ensures.1 in
    let wrong = sym l.invariant.same ∙ check_wrong a.levels l.at (own a.inside l.rest.now) _ some (sym c.in_err-more.ensures.is) in
    rw (p.1, p.2) (sym (then_err _ _ _ wrong))

pub check-returns : goal.check-returns
check-returns t c =
    let a = c.args in
    let l = c.loop-rest in
    let none = ended a.inside l.rest.now (search rules) in
    record {
      is = check_done a.levels l.at a.at (own a.inside l.rest.now) (own a.inside a.text.now) l.len none l.invariant.size l.invariant.same;
      len = omega (arith, ap length none, l.invariant.size);
    }

pub check_part-check-requires : goal.check_part-check-requires
check_part-check-requires t c =
    let f = c.in-Form in (
      search rules,
      (
        omega (arith, c.rest_from.ensures.len),
        tail_closed c.args.text.now c.rest_from.result.now f.name f.colon c.tail_start-start.result c.tail_start-start.ensures c.rest_from.ensures.value f.ensures.fits.2.after_cut.0,
      ),
    )

pub check_part-returns-in_err-tail-in-Form-clause-is : goal.check_part-returns-in_err-tail-in-Form-clause-is
check_part-returns-in_err-tail-in-Form-clause-is t c =
    let a = c.args in
    let f = c.in-Form in
    let p = err_from_is_err_and c.from_residual.result c.from_residual.ensures.1 in
    let rest = c.rest_from in
    let some : own a.inside a.text.now ≢ [] = search rules in
    let closed : IsClosed a.inside a.text.now = search rules in
    let own_tail = tail_own a.levels a.inside a.text.now closed some f.name f.colon f.action _ c.tail_start-start.result rest.result.now f.ensures.is c.tail_start-start.ensures rest.ensures.value in
    let len = first_len_form a.levels a.at (own a.inside a.text.now) _ f.name f.colon f.action _ c.tail_start-start.result f.ensures.is f.ensures.fits.0 c.tail_start-start.ensures own_tail in
    rw (p.1, p.2) (form_failed _ _ _ _ c.in_err-tail-in-Form.ensures.is ∙ sym len)

pub check_part-returns-in_ok-tail-in-Form : goal.check_part-returns-in_ok-tail-in-Form
check_part-returns-in_ok-tail-in-Form t c =
    let a = c.args in
    let f = c.in-Form in
    let rest = c.rest_from in
    let some : own a.inside a.text.now ≢ [] = search rules in
    let closed : IsClosed a.inside a.text.now = search rules in
    let start = c.tail_start-start.ensures in
    let own_tail = tail_own a.levels a.inside a.text.now closed some f.name f.colon f.action _ c.tail_start-start.result rest.result.now f.ensures.is start rest.ensures.value in
    let len = first_len_form a.levels a.at (own a.inside a.text.now) _ f.name f.colon f.action _ c.tail_start-start.result f.ensures.is f.ensures.fits.0 start own_tail in
    let size = tail_length a.text.now rest.result.now f.name f.colon c.tail_start-start.result start rest.ensures.value in
    let same = c.in_ok-tail-in-Form.ensures.len ∙ size in
    record {
      is = form_done _ _ _ _ _ c.in_ok-tail-in-Form.ensures.is size ∙ sym len;
      cut = (
        omega arith,
        after_tail a.text.now _ _ _ _ start same f.ensures.fits.2.after_cut,
      );
    }
