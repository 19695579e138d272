use Rattle.std.proofs.Common.{[], ◌∷◌, List, sym, subst}
use Rattle.engine_types.specs.declared.Entry.{Entry}
use Rattle.slot_rows.specs.Slots.{AreSlots}
use Rattle.slot_rows.specs.declared.slot_row.SlotRow.{SlotRow}
use Rattle.start_rows.proofs.Reading.{slots_say}
use Rattle.ledger_start.specs.Outsets.{start_setup}
use Rattle.ledger_start.proofs.rows.slot_rows.Goals as goal

pub returns : goal.returns
returns c =
    subst (λ (rows : List SlotRow). AreSlots (start_setup c.args.outset.now) (Entry.Seen c.args.outset.now.observed.now ∷ []) rows) (sym c.in_ok-slots.ensures)
    (slots_say (start_setup c.args.outset.now) c.args.outset.now.observed.now c.requires.may.orderly c.args.starts.now c.args.healthy.now c.args.completed.now c.in_ok-rows.rows.items c.requires.starts
    c.requires.healthy c.requires.completed c.in_ok-rows.ensures.size c.in_ok-rows.ensures.each)
