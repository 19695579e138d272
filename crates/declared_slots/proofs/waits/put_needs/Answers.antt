use Rattle.std.proofs.Common.{sym}
use Rattle.declared_slots.specs.Needs.{need_of}
use Rattle.declared_slots.proofs.Counting.{one_more}
use Rattle.declared_slots.proofs.waits.put_needs.Goals as goal

pub loop-before-preserved : goal.loop-before-preserved
loop-before-preserved c =
    one_more (need_of c.args.dependency.now) c.args.range.first c.loop-before.before c.in_ok-slot.slot c.args.needs.now c.loop-before.needs c.push.new.self c.need_of.result
    c.loop-before.invariant c.in_ok-push.ensures.ok c.need_of.ensures (sym c.in_ok-slot.ensures)
