use Rattle.std.proofs.Common.{sym}
use Rattle.declared_set.specs.Slots.{slot_with}
use Rattle.declared_set.proofs.Numbering.{one_more}
use Rattle.declared_set.proofs.slots.put_slots.Goals as goal

pub loop-before-preserved : goal.loop-before-preserved
loop-before-preserved c =
    one_more (slot_with c.args.loaded.now c.args.service.now c.args.common.now) c.loop-before.before c.in_ok-number.number c.args.slots.now c.loop-before.slots c.push.new.self c.in_ok-slot_with.field-0
    c.loop-before.invariant c.in_ok-push.ensures.ok c.in_ok-slot_with.ensures (sym c.in_ok-number.ensures)
