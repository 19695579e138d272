-- The circle that is told is the first way back to a place.
use Rattle.std.proofs.Common.{◌≡◌, ◌∙◌, List, map, ap}
use Rattle.std.specs.Prelude.{option_map}
use Rattle.typed_project.specs.Projects.{IsInOrder}
use Rattle.typed_project.specs.declared.service.Service.{Service}
use Rattle.service_graph.specs.Cycles.{circle_through, cycle, first_of}
use Rattle.service_graph.specs.Places.{AreWithin, first_back, keys_on, links_of}
use Rattle.service_graph.proofs.Keyed.{AreApart, first_same, links_within}
use Rattle.service_graph.proofs.Ordered.{ascending_apart, sorted_already}

pub apart_in_order : (services : List Service) → IsInOrder services → AreApart services
apart_in_order services up i j d l m = ascending_apart (λ (service : Service). service.key) services up i j d l m

pub within_in_order : (services : List Service) → IsInOrder services → AreWithin (links_of services)
within_in_order services up = links_within services (apart_in_order services up)

pub cycle_is : (services : List Service) → IsInOrder services → cycle services ≡ option_map (keys_on services) (first_back (links_of services))
cycle_is services up =
    ap (λ (all : List Service). first_of (map (λ (service : Service). circle_through services service.key) all)) (sorted_already (λ (service : Service). service.key) services up)
    ∙ first_same services (apart_in_order services up)
