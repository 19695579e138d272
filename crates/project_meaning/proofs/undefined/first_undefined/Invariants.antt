use Rattle.std.proofs.Common.{◌≡◌, drop, map}
use Rattle.service_graph.specs.Cycles.{first_of}
use Rattle.project_meaning.specs.Names.{undefined_among}
use Rattle.project_meaning.proofs.undefined.first_undefined.Given as goal

abbrev pub invariant-loop-service : goal.invariant-loop-service
invariant-loop-service l =
    first_of (map (undefined_among l.keys) (drop l.service-index l.services))
    ≡ first_of (map (undefined_among l.keys) l.services)
