use Rattle.std.proofs.Common.{◌≡◌, ℕ, List, take}
use Rattle.attribute_scalars.specs.Walks.{is_in}
use Rattle.declared_slots.specs.Goals.{is_awaited}
use Rattle.declared_slots.proofs.goals.awaited.Given as goal

abbrev pub invariant-loop-service : goal.invariant-loop-service
invariant-loop-service l = (key : List ℕ) → is_in l.keys.keys key ≡ is_awaited l.scales (take l.service-index l.services) key
