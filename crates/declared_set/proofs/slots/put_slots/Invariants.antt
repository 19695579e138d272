use Rattle.std.proofs.Common.{◌≡◌, ◌++◌, map}
use Rattle.std.specs.List.{range_with_len}
use Rattle.declared_set.specs.Slots.{slot_with}
use Rattle.declared_set.proofs.slots.put_slots.Given as goal

abbrev pub invariant-loop-before : goal.invariant-loop-before
invariant-loop-before l = l.slots ≡ l.fn.slots ++ map (slot_with l.loaded l.service l.common) (range_with_len 1 l.before)
