use Rattle.std.proofs.Common.{◌≡◌, map, take}
use Rattle.notes.specs.Containers.{names_unknown}
use Rattle.notes.proofs.containers.names_unknown.Given as goal

abbrev pub invariant-loop-exchange : goal.invariant-loop-exchange
invariant-loop-exchange l = l.names ≡ names_unknown l.known (map (λ exchange. exchange.now) (take l.exchange-index l.exchanges))
