use Rattle.std.proofs.Common.{◌≡◌, map, take}
use Rattle.std.specs.Prelude.{filter}
use Rattle.rolling_update.specs.Needs.{strays}
use Rattle.rolling_update.proofs.rolled.stray_services.Given as goal

abbrev pub invariant-loop-at : goal.invariant-loop-at
invariant-loop-at l = l.services ≡ map (λ slot. slot.service) (filter (strays l.finder.scene) (take l.at l.finder.scene.declared.slots))
