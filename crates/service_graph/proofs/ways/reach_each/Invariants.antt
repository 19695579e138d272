use Rattle.std.proofs.Common.{[], ◌∷◌, ◌++◌, get_or, map, take}
use Rattle.service_graph.specs.Reaching.{Reaches, ways_of}
use Rattle.service_graph.proofs.ways.reach_each.Given as goal

abbrev pub invariant-loop-place : goal.invariant-loop-place
invariant-loop-place l =
    Reaches l.fn.seen l.fn.reached.items (map (λ to. get_or (ways_of l.fn.reached.items) l.from [] ++ to ∷ []) (take l.place-index l.next)) l.seen l.reached.items
