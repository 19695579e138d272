use Rattle.std.proofs.Common.{◌≡◌, map, take}
use Rattle.std.specs.Prelude.{filter}
use Rattle.service_graph.specs.Cycles.{needs}
use Rattle.service_graph.proofs.neighbours.dependents.Given as goal

abbrev pub invariant-loop-other : goal.invariant-loop-other
invariant-loop-other l = l.keys ≡ map (λ service. service.key) (filter (needs l.service) (take l.other-index l.services))
