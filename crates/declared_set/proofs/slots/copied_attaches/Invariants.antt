use Rattle.std.proofs.Common.{◌≡◌, take}
use Rattle.declared_set.proofs.slots.copied_attaches.Given as goal

abbrev pub invariant-loop-attach : goal.invariant-loop-attach
invariant-loop-attach l = l.copies ≡ take l.attach-index l.attaches
