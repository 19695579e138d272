use Rattle.std.proofs.Common.{◌≡◌, ◌<◌, [], ◌++◌, get_or, length, reverse}
use Rattle.service_graph.specs.Reaching.{ways_of}
use Rattle.service_graph.proofs.ways.way_to.Given as goal

abbrev pub invariant-loop-at : goal.invariant-loop-at
invariant-loop-at l = record {
  within : l.at < length l.reached;
  goes_on : get_or (ways_of l.reached) l.last [] ≡ get_or (ways_of l.reached) l.at [] ++ reverse l.way.items;
}

abbrev pub decreases-loop-at : goal.decreases-loop-at
decreases-loop-at l = l.at
