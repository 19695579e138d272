use Rattle.std.proofs.Common.{◌≡◌, take}
use Rattle.std.specs.Prelude.{flat_map}
use Rattle.rolling_update.specs.Needs.{starts_before}
use Rattle.rolling_update.proofs.table.Table.all_before.Given as goal

abbrev pub invariant-loop-number : goal.invariant-loop-number
invariant-loop-number l = l.added.items ≡ flat_map (starts_before l.self) (take l.number-index l.numbers)
