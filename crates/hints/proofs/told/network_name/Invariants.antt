use Rattle.std.proofs.Common.{◌≡◌, drop, map}
use Rattle.hints.specs.Told.{network_name}
use Rattle.hints.proofs.told.network_name.Given as goal

abbrev pub invariant-loop-exchange : goal.invariant-loop-exchange
invariant-loop-exchange l =
    network_name l.id (map (λ exchange. exchange.now) (drop l.exchange-index l.exchanges))
    ≡ network_name l.id (map (λ exchange. exchange.now) l.exchanges)
