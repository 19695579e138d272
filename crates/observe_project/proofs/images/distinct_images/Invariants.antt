use Rattle.std.proofs.Common.{◌≡◌, ℕ, List, map, take}
use Rattle.std.specs.Map.{keys_of}
use Rattle.engine_types.specs.declared.Slot.{Slot}
use Rattle.tree_base.specs.ByteOrder.{first_of_each}
use Rattle.observe_project.proofs.images.distinct_images.Given as goal

abbrev pub invariant-loop-slot : goal.invariant-loop-slot
invariant-loop-slot l = record {
  are : l.images.items ≡ first_of_each (λ (image : List ℕ). image) (map (λ (slot : Slot). slot.image) (take l.slot-index l.slots));
  knows : keys_of l.known ≡ map (λ (image : List ℕ). image) l.images.items;
}
