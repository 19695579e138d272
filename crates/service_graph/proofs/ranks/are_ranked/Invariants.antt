use Rattle.std.proofs.Common.{ℕ, ◌<◌, ◌≤◌, get_or}
use Rattle.std.specs.List.{Contains}
use Rattle.service_graph.specs.Places.{next_of}
use Rattle.service_graph.proofs.ranks.are_ranked.Given as goal

abbrev pub invariant-loop-from : goal.invariant-loop-from
invariant-loop-from l =
    (from to : ℕ) → from < l.from → Contains (next_of l.links from) to → get_or l.ranks from 0 ≤ get_or l.ranks to 0
