-- One event more is taken, and looked behind.
use Rattle.std.proofs.Common.{◌∙◌, ◌++◌, ◌∷◌, [], ap, inl, inr, length, refl, sym, arith}
use Rattle.std.proofs.lemmas.Result.{err_from_is_err_and}
use Rattle.wait_run.proofs.watching.look_at_events.Goals as goal

pub events-init : goal.events-init
events-init g c = λ declared rows body taken from after. (taken, after)

pub events-preserved : goal.events-preserved
events-preserved g c = λ declared rows body taken from after.
    let so_far = c.events.invariant declared rows body taken from after in (
      so_far.0 ++ c.in-Some.event ∷ [],
      c.in_ok-look_behind.ensures declared rows body so_far.0 from c.events.reader c.take.new.self so_far.1 (c.in-Some.ensures.taken body so_far.0 so_far.1.has_read) (sym c.is_settled.ensures ∙ c.events-test.true),
    )

pub events-smaller : goal.events-smaller
events-smaller g c = let e = ap length c.in-Some.ensures.left in omega (arith, e)

pub returns-in_default : goal.returns-in_default
returns-in_default g c = λ declared rows body taken from after.
    let so_far = c.events.invariant declared rows body taken from after in (
      so_far.0,
      record {
        n = so_far.1.n;
        way = so_far.1.way;
        has_read = c.in_default.ensures.kept body so_far.0 so_far.1.has_read refl;
        many = so_far.1.many;
      },
      inr (c.in_default.ensures.taken body so_far.0 so_far.1.has_read),
    )

pub returns-in_err-look_behind : goal.returns-in_err-look_behind
returns-in_err-look_behind g c = λ declared rows body taken from after.
    let so_far = c.events.invariant declared rows body taken from after in
    let p = err_from_is_err_and c.from_residual.result c.from_residual.ensures.1 in
    rw (p.1, p.2)
    (c.in_err-look_behind.ensures declared rows body so_far.0 from c.events.reader c.take.new.self so_far.1 (c.in-Some.ensures.taken body so_far.0 so_far.1.has_read) (sym c.is_settled.ensures ∙ c.events-test.true))

pub returns : goal.returns
returns g c = λ declared rows body taken from after.
    let so_far = c.events.invariant declared rows body taken from after in
    (so_far.0, so_far.1, inl (sym c.is_settled.ensures ∙ c.events-test.false))
