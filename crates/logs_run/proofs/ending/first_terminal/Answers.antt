use Rattle.std.proofs.Common.{◌≡◌, List, Some, ap, length, refl, slice_get, sym, ◌∙◌, arith}
use Rattle.std.proofs.lemmas.Option.{slice_get_read}
use Rattle.engine_types.specs.declared.Slot.{Slot}
use Rattle.logs_run.proofs.Refusals.{none_more, none_past, not_terminal}
use Rattle.logs_run.proofs.ending.first_terminal.Goals as goal

pub loop-at-init : goal.loop-at-init
loop-at-init c = λ m less h. absurd (omega (arith, less))

pub loop-at-preserved : goal.loop-at-preserved
loop-at-preserved c =
    let slots = c.as_slice-slots.result.now in
    let i = c.loop-at.at in
    let slot = c.index-slots-at.result in
    let at : slice_get slots i ≡ Some slot = slice_get_read slots (length slots) i slot refl (omega arith) c.index-slots-at.is in
    none_more c.args.declared.now c.args.rows.now i c.loop-at.invariant
    (not_terminal c.args.declared.now c.args.rows.now i slot (sym (ap (λ (l : List Slot). slice_get l i) c.as_slice-slots.ensures) ∙ at) (sym c.in_ok-found.ensures ∙ c.if-found.false))

pub returns : goal.returns
returns c =
    let long = ap (λ (l : List Slot). length l) c.as_slice-slots.ensures in
    none_past c.args.declared.now c.args.rows.now c.loop-at.at c.loop-at.invariant (omega (arith, long))
