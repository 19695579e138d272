use Rattle.std.proofs.Common.{◌≡◌, map, take}
use Rattle.declared_set.specs.Declaring.{service_of}
use Rattle.declared_set.proofs.services.services_of.Given as goal

abbrev pub invariant-loop-service : goal.invariant-loop-service
invariant-loop-service l = l.declared ≡ map service_of (take l.service-index l.services)
