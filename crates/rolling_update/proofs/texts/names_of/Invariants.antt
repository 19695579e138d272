use Rattle.std.proofs.Common.{◌≡◌, map, take}
use Rattle.engine_types.specs.declared.Slot.{Slot}
use Rattle.rolling_update.proofs.texts.names_of.Given as goal

abbrev pub invariant-loop-slot : goal.invariant-loop-slot
invariant-loop-slot l = l.texts ≡ map (λ (slot : Slot). slot.name) (take l.slot-index l.slots)
