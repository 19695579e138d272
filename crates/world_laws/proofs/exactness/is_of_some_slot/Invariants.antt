use Rattle.std.proofs.Common.{◌≡◌, false, take}
use Rattle.std.specs.List.{list_any}
use Rattle.engine_types.specs.declared.Slot.{Slot}
use Rattle.run_model.specs.Labels.{is_of_slot}
use Rattle.world_laws.proofs.exactness.is_of_some_slot.Given as goal

abbrev pub invariant-loop-slot : goal.invariant-loop-slot
invariant-loop-slot l = list_any (λ (slot : Slot). is_of_slot l.declared.project slot l.pairs) (take l.slot-index l.slot-items) ≡ false
