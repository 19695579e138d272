-- The next slot has a container, or is the first without.
use Rattle.std.proofs.Common.{◌≡◌, ◌∙◌, ◌+◌, Some, ap, length, refl, slice_get, subst, sym, arith}
use Rattle.std.proofs.lemmas.Option.{slice_get_read}
use Rattle.std.proofs.lemmas.Result.{err_from_is_err_and}
use Rattle.std.specs.Option.{option_map}
use Rattle.engine_types.specs.declared.Listed.{Listed}
use Rattle.wait_run.proofs.Finding.{HasGoals, goals_all, goals_next, goals_none}
use Rattle.wait_run.proofs.Putting.{absent_so}
use Rattle.wait_run.specs.Looks.{container_of}
use Rattle.wait_run.proofs.slots.goals_of.Goals as goal

pub loop-slot-init : goal.loop-slot-init
loop-slot-init c =
    let e = c.new-goals.ensures in
    goals_none c.args.declared.now c.args.rows.now c.new-goals.result e.containers e.rows e.places e.left e.met e.failed

pub loop-slot-preserved : goal.loop-slot-preserved
loop-slot-preserved c =
    let declared = c.args.declared.now in
    let rows = c.args.rows.now in
    let i = c.loop-slot.slot-index in
    let slot = c.slot-item.result in
    let here : slice_get c.as_slice-slot-items.result.now i ≡ Some slot = slice_get_read c.as_slice-slot-items.result.now (length c.as_slice-slot-items.result.now) i slot refl (omega arith) c.slot-item.is in
    let at : slice_get declared.slots i ≡ Some slot = ap (λ l. slice_get l i) (sym c.as_slice-slot-items.ensures) ∙ here in
    let puts = c.in_ok-put_goal.ensures in
    let is : container_of declared rows slot ≡ Some puts.0.id = ap (option_map (λ (row : Listed). row.id)) puts.1 in
    subst (HasGoals declared rows (i + 1)) (sym puts.2) (goals_next declared rows i c.loop-slot.goals slot c.loop-slot.invariant at puts.0.id is puts.3)

pub returns-in_err-put_goal : goal.returns-in_err-put_goal
returns-in_err-put_goal c =
    let declared = c.args.declared.now in
    let rows = c.args.rows.now in
    let i = c.loop-slot.slot-index in
    let slot = c.slot-item.result in
    let here : slice_get c.as_slice-slot-items.result.now i ≡ Some slot = slice_get_read c.as_slice-slot-items.result.now (length c.as_slice-slot-items.result.now) i slot refl (omega arith) c.slot-item.is in
    let at : slice_get declared.slots i ≡ Some slot = ap (λ l. slice_get l i) (sym c.as_slice-slot-items.ensures) ∙ here in
    let many = ap length c.as_slice-slot-items.ensures in
    let p = err_from_is_err_and c.from_residual.result c.from_residual.ensures.1 in
    rw (p.1, p.2) (absent_so declared rows i c.loop-slot.goals c.put_goal.new.goals slot c.loop-slot.invariant at (omega (arith, many)) c.in_err-put_goal.field-0.0 c.in_err-put_goal.ensures)

pub returns : goal.returns
returns c =
    let many = ap length c.as_slice-slot-items.ensures in
    let all : c.loop-slot.slot-index ≡ length c.args.declared.now.slots = omega (arith, many) in
    goals_all c.args.declared.now c.args.rows.now c.loop-slot.goals (subst (λ i. HasGoals c.args.declared.now c.args.rows.now i c.loop-slot.goals) all c.loop-slot.invariant)
