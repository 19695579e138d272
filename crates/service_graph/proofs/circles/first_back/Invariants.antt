use Rattle.std.proofs.Common.{◌≡◌, ◌-◌, length, map}
use Rattle.std.specs.List.{range_with_len}
use Rattle.service_graph.specs.Cycles.{first_of}
use Rattle.service_graph.specs.Places.{first_back, way_back}
use Rattle.service_graph.proofs.circles.first_back.Given as goal

abbrev pub invariant-loop-start : goal.invariant-loop-start
invariant-loop-start l =
    first_back l.links ≡ first_of (map (way_back l.links) (range_with_len l.start (length l.links - l.start)))
