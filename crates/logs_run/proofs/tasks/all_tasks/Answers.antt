use Rattle.std.proofs.Common.{◌≡◌, ◌∙◌, List, Some, ap, length, refl, slice_get, sym, arith}
use Rattle.std.proofs.lemmas.Option.{slice_get_read}
use Rattle.engine_types.specs.declared.Slot.{Slot}
use Rattle.logs_run.proofs.TaskLists.{tasks_more, tasks_whole}
use Rattle.logs_run.proofs.tasks.all_tasks.Goals as goal

pub loop-at-preserved : goal.loop-at-preserved
loop-at-preserved c =
    let slots = c.as_slice-slots.result.now in
    let i = c.loop-at.at in
    let slot = c.index-slots-at.result in
    let at : slice_get slots i ≡ Some slot = slice_get_read slots (length slots) i slot refl (omega arith) c.index-slots-at.is in
    tasks_more c.args.declared.now c.args.rows.now i slot c.loop-at.all _ (sym (ap (λ (l : List Slot). slice_get l i) c.as_slice-slots.ensures) ∙ at) c.in_ok-put_task.ensures c.loop-at.invariant

pub returns : goal.returns
returns c =
    let long = ap (λ (l : List Slot). length l) c.as_slice-slots.ensures in
    tasks_whole c.args.declared.now c.args.rows.now c.loop-at.at c.loop-at.all (omega (arith, long)) c.loop-at.invariant
