use Rattle.std.proofs.Common.{◌≡◌, map, take}
use Rattle.notes.specs.Orphans.{orphan_names}
use Rattle.notes.proofs.orphans.orphan_names.Given as goal

abbrev pub invariant-loop-exchange : goal.invariant-loop-exchange
invariant-loop-exchange l = l.names ≡ orphan_names l.project l.services (map (λ exchange. exchange.now) (take l.exchange-index l.exchanges))
