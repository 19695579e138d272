use Rattle.std.proofs.Common.{◌≡◌, ◌≤◌, ◌<◌, List, length, get_or, set, refl, sym, ap, ◌∙◌, arith}
use Rattle.slot_rows.specs.Keys.{no_slot}
use Rattle.slot_rows.specs.declared.slot_row.SlotRow.{SlotRow}
use Rattle.ledger_ends.specs.Retiring.{askers_on, unasked}
use Rattle.ledger_ends.proofs.Askers.{no_need, retires_more, still_asked, there_now}
use Rattle.ledger_ends.proofs.retiring.retire.Goals as goal

pub unask-requires : goal.unask-requires
unask-requires c = λ r.
    let k = still_asked c.args.needs.now c.loop-need.need-index no_need c.args.slots.now c.loop-need.slots c.loop-need-test.true
    (there_now c.args.needs.now c.loop-need.need-index no_need (length c.args.slots.now) (length c.args.slots.now) c.loop-need-test.true c.requires.there refl) c.requires.asked c.loop-need.invariant r in
    let e : askers_on (get_or c.args.needs.now c.loop-need.need-index no_need).condition c.row-row.result ≡ askers_on (get_or c.args.needs.now c.loop-need.need-index no_need).condition (get_or c.loop-need.slots (get_or c.args.needs.now c.loop-need.need-index no_need).slot no_slot)
    = ap (askers_on (get_or c.args.needs.now c.loop-need.need-index no_need).condition) c.row-row.ensures in
    omega (arith, k, e)

pub set-requires : goal.set-requires
set-requires c = there_now c.args.needs.now c.loop-need.need-index no_need (length c.args.slots.now) (length c.loop-need.slots) c.loop-need-test.true c.requires.there c.loop-need.invariant.size

pub loop-need-preserved : goal.loop-need-preserved
loop-need-preserved c =
    retires_more c.args.needs.now c.loop-need.need-index no_need c.args.slots.now c.loop-need.slots c.loop-need-test.true
    (there_now c.args.needs.now c.loop-need.need-index no_need (length c.args.slots.now) (length c.args.slots.now) c.loop-need-test.true c.requires.there refl) c.requires.asked c.loop-need.invariant c.set.new.self
    (c.set.ensures ∙ ap (λ (row : SlotRow). set c.loop-need.slots (get_or c.args.needs.now c.loop-need.need-index no_need).slot row)
    (c.unask.ensures ∙ ap (unasked (get_or c.args.needs.now c.loop-need.need-index no_need).condition) c.row-row.ensures))
