use Rattle.std.proofs.Common.{◌≡◌, take}
use Rattle.std.specs.List.{flat_map}
use Rattle.declared_set.specs.Slots.{slots_in}
use Rattle.declared_set.proofs.slots.slots_of.Given as goal

abbrev pub invariant-loop-service : goal.invariant-loop-service
invariant-loop-service l = l.slots ≡ flat_map (slots_in l.ground.loaded.now l.scales l.ground.digests.now) (take l.service-index l.services)
