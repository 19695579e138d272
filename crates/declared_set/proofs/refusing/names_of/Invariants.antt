use Rattle.std.proofs.Common.{◌≡◌, take}
use Rattle.std.specs.List.{flat_map}
use Rattle.declared_set.specs.Refusing.{names_in}
use Rattle.declared_set.proofs.refusing.names_of.Given as goal

abbrev pub invariant-loop-service : goal.invariant-loop-service
invariant-loop-service l = l.names.items ≡ flat_map (names_in l.project l.scales) (take l.service-index l.services)
