use Rattle.std.proofs.Common.{◌≡◌, take}
use Rattle.std.specs.Prelude.{filter}
use Rattle.rolling_update.specs.Needs.{owns}
use Rattle.rolling_update.proofs.table.Table.owners_among.Given as goal

abbrev pub invariant-loop-number : goal.invariant-loop-number
invariant-loop-number l = l.owners.items ≡ filter (owns l.self.scene l.container) (take l.number-index l.numbers)
