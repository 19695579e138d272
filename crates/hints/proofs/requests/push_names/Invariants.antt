use Rattle.std.proofs.Common.{◌≡◌, ◌++◌, map, take}
use Rattle.hints.specs.Requests.{names_in}
use Rattle.hints.proofs.requests.push_names.Given as goal

abbrev pub invariant-loop-row : goal.invariant-loop-row
invariant-loop-row l = l.names
    ≡ l.initial.names ++ names_in l.network (map (λ exchange. exchange.now) l.exchanges) (take l.row-index l.rows)
