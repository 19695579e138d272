use Rattle.std.proofs.Common.{◌≡◌, map, take}
use Rattle.engine_types.specs.declared.DeclaredService.{DeclaredService}
use Rattle.rolling_update.proofs.texts.keys_of.Given as goal

abbrev pub invariant-loop-service : goal.invariant-loop-service
invariant-loop-service l = l.texts ≡ map (λ (service : DeclaredService). service.key) (take l.service-index l.service-items)
