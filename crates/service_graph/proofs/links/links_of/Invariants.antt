use Rattle.std.proofs.Common.{◌≡◌, map, take}
use Rattle.service_graph.specs.Places.{places_of}
use Rattle.service_graph.proofs.links.links_of.Given as goal

abbrev pub invariant-loop-service : goal.invariant-loop-service
invariant-loop-service l = l.links ≡ map (places_of l.services) (take l.service-index l.services)
