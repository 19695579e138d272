use Rattle.std.proofs.Common.{◌≡◌, drop, map}
use Rattle.hints.specs.Told.{is_gone}
use Rattle.hints.proofs.told.is_gone.Given as goal

abbrev pub invariant-loop-exchange : goal.invariant-loop-exchange
invariant-loop-exchange l =
    is_gone l.id (map (λ exchange. exchange.now) (drop l.exchange-index l.exchanges))
    ≡ is_gone l.id (map (λ exchange. exchange.now) l.exchanges)
