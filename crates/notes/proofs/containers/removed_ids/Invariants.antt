use Rattle.std.proofs.Common.{map, take}
use Rattle.notes.specs.Containers.{Knows, removed_ids}
use Rattle.notes.proofs.containers.removed_ids.Given as goal

-- what the first exchanges removed is known
abbrev pub invariant-loop-exchange : goal.invariant-loop-exchange
invariant-loop-exchange l = Knows l.known (removed_ids (map (λ exchange. exchange.now) (take l.exchange-index l.exchanges)))
