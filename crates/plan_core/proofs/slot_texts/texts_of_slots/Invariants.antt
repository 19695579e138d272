use Rattle.std.proofs.Common.{◌≡◌, map, take}
use Rattle.plan_core.specs.Finding.{slot_text}
use Rattle.plan_core.proofs.slot_texts.texts_of_slots.Given as goal

abbrev pub invariant-loop-slot : goal.invariant-loop-slot
invariant-loop-slot l = l.texts ≡ map slot_text (take l.slot-index l.slots)
