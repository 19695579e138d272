use Rattle.std.proofs.Common.{◌≡◌, map, take}
use Rattle.service_graph.specs.Places.{key_at}
use Rattle.service_graph.proofs.circles.keys_on.Given as goal

abbrev pub invariant-loop-place : goal.invariant-loop-place
invariant-loop-place l = l.keys ≡ map (key_at l.services) (take l.place-index l.way)
