use Rattle.std.proofs.Common.{◌≡◌, drop}
use Rattle.std.specs.Prelude.{find}
use Rattle.service_graph.specs.Places.{leads_back}
use Rattle.service_graph.specs.Reaching.{ways_of}
use Rattle.service_graph.proofs.ways.leading_back.Given as goal

abbrev pub invariant-loop-at : goal.invariant-loop-at
invariant-loop-at l =
    find (leads_back l.links l.start) (drop l.first (ways_of l.reached)) ≡ find (leads_back l.links l.start) (drop l.at (ways_of l.reached))
