use Rattle.std.proofs.Common.{◌≡◌, take}
use Rattle.std.specs.Prelude.{filter}
use Rattle.rolling_update.specs.Needs.{stops_at}
use Rattle.rolling_update.proofs.table.Table.stops_among.Given as goal

abbrev pub invariant-loop-place : goal.invariant-loop-place
invariant-loop-place l = l.stops.items ≡ filter (stops_at l.self l.slot) (take l.place-index l.found)
