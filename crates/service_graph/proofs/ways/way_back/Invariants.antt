use Rattle.std.proofs.Common.{◌≡◌, drop, length}
use Rattle.service_graph.specs.Reaching.{AreFromEarlier, ways_of}
use Rattle.service_graph.proofs.Walks.{IsLevel}
use Rattle.service_graph.proofs.ways.way_back.Given as goal

abbrev pub invariant-loop-count : goal.invariant-loop-count
invariant-loop-count l = record {
  level : IsLevel l.links l.start l.count (drop l.first (ways_of l.reached.items)) l.seen.items;
  long : length l.seen.items ≡ length l.links;
  earlier : AreFromEarlier l.reached.items;
}
