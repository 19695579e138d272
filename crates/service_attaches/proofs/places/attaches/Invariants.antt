use Rattle.std.proofs.Common.{◌≡◌, take}
use Rattle.std.specs.Prelude.{flat_map}
use Rattle.service_attaches.specs.Attaches.{attach_of}
use Rattle.service_attaches.proofs.places.attaches.Given as goal

abbrev pub invariant-loop-network : goal.invariant-loop-network
invariant-loop-network l = l.attaches ≡ flat_map (attach_of l.networks) (take l.network-index l.network-items)
