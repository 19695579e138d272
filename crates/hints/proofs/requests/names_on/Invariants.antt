use Rattle.std.proofs.Common.{◌≡◌, map, take}
use Rattle.std.specs.Prelude.{flat_map}
use Rattle.hints.specs.Requests.{names_in}
use Rattle.hints.specs.Told.{rows_told}
use Rattle.hints.proofs.requests.names_on.Given as goal

abbrev pub invariant-loop-exchange : goal.invariant-loop-exchange
invariant-loop-exchange l = l.names
    ≡ flat_map (λ exchange. names_in l.network (map (λ other. other.now) l.exchanges) (rows_told exchange.outcome))
    (map (λ exchange. exchange.now) (take l.exchange-index l.exchanges))
