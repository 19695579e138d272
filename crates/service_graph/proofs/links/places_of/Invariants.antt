use Rattle.std.proofs.Common.{◌≡◌, take}
use Rattle.std.specs.Prelude.{filter_map}
use Rattle.service_graph.specs.Places.{place_of}
use Rattle.service_graph.proofs.links.places_of.Given as goal

abbrev pub invariant-loop-need : goal.invariant-loop-need
invariant-loop-need l = l.places ≡ filter_map (λ need. place_of l.services need.key) (take l.need-index l.needs)
