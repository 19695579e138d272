use Rattle.std.proofs.Common.{◌≡◌, drop, map}
use Rattle.service_graph.specs.Cycles.{first_of}
use Rattle.project_meaning.specs.Names.{kinds, undefined_among, undefined_of_kind}
use Rattle.project_meaning.proofs.undefined.undefined_in.Given as goal

abbrev pub invariant-loop-kind : goal.invariant-loop-kind
invariant-loop-kind l =
    first_of (map (undefined_of_kind l.keys l.service) (drop l.kind-index kinds))
    ≡ undefined_among l.keys l.service
