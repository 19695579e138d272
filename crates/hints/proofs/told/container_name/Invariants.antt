use Rattle.std.proofs.Common.{◌≡◌, drop, map}
use Rattle.hints.specs.Told.{container_name}
use Rattle.hints.proofs.told.container_name.Given as goal

abbrev pub invariant-loop-exchange : goal.invariant-loop-exchange
invariant-loop-exchange l =
    container_name l.id (map (λ exchange. exchange.now) (drop l.exchange-index l.exchanges))
    ≡ container_name l.id (map (λ exchange. exchange.now) l.exchanges)
