-- One slot more is looked at.
use Rattle.std.proofs.Common.{[], inl, arith}
use Rattle.std.proofs.lemmas.Result.{err_from_is_err_and}
use Rattle.wait_run.proofs.Looks.{slot_next, slot_there, slots_done}
use Rattle.wait_run.proofs.Ways.{way_short}
use Rattle.wait_run.proofs.looking.look_at_all.Goals as goal

pub loop-s-init : goal.loop-s-init
loop-s-init g c = λ declared rows from way. way

pub loop-s-preserved : goal.loop-s-preserved
loop-s-preserved g c = λ declared rows from way.
    c.in_ok-look.ensures declared rows [] c.loop-s.s from (c.loop-s.invariant declared rows from way)
    (slot_next declared rows from _ c.args.goals.now c.len-count.result c.loop-s.s way c.len-count.ensures c.in_ok-at.at (omega arith) c.in_ok-at.ensures)
    (inl (slot_there declared rows from _ c.args.goals.now c.len-count.result c.loop-s.s way c.len-count.ensures (omega arith)))

pub returns-in_err-at : goal.returns-in_err-at
returns-in_err-at g c = λ declared rows from way.
    let p = err_from_is_err_and c.from_residual.result c.from_residual.ensures.1 in
    rw (p.1, p.2) (way_short declared rows [] c.loop-s.s from _ c.loop-s.goals (c.loop-s.invariant declared rows from way))

pub returns-in_err-look : goal.returns-in_err-look
returns-in_err-look g c = λ declared rows from way.
    let p = err_from_is_err_and c.from_residual-in_err-look.result c.from_residual-in_err-look.ensures.1 in
    rw (p.1, p.2)
    (c.in_err-look.ensures declared rows [] c.loop-s.s from (c.loop-s.invariant declared rows from way)
    (slot_next declared rows from _ c.args.goals.now c.len-count.result c.loop-s.s way c.len-count.ensures c.in_ok-at.at (omega arith) c.in_ok-at.ensures)
    (inl (slot_there declared rows from _ c.args.goals.now c.len-count.result c.loop-s.s way c.len-count.ensures (omega arith))))

pub returns : goal.returns
returns g c = λ declared rows from way.
    slots_done declared rows from _ c.args.goals.now c.len-count.result c.loop-s.s way c.len-count.ensures _ c.loop-s.goals (omega arith) (c.loop-s.invariant declared rows from way)
