use Rattle.std.proofs.Common.{◌-◌, drop, take}
use Rattle.service_graph.specs.Places.{further}
use Rattle.service_graph.specs.Reaching.{Reaches, ways_of}
use Rattle.service_graph.proofs.ways.reach.Given as goal

abbrev pub invariant-loop-from : goal.invariant-loop-from
invariant-loop-from l =
    Reaches l.fn.seen l.fn.reached.items (further l.links (take (l.from - l.first) (drop l.first (ways_of l.fn.reached.items)))) l.seen l.reached.items
