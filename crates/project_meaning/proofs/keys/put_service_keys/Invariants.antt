use Rattle.std.proofs.Common.{◌≡◌, ◌++◌, map, take}
use Rattle.project_meaning.proofs.keys.put_service_keys.Given as goal

abbrev pub invariant-loop-service : goal.invariant-loop-service
invariant-loop-service l = l.keys.items ≡ l.fn.keys.items ++ map (λ service. service.key) (take l.service-index l.services)
