use Rattle.std.proofs.Common.{◌≡◌, false, take}
use Rattle.std.specs.List.{list_any}
use Rattle.rolling_update.specs.Needs.{is_other_at}
use Rattle.rolling_update.proofs.finder.any_other.Given as goal

abbrev pub invariant-loop-number : goal.invariant-loop-number
invariant-loop-number l = list_any (is_other_at l.declared l.slot l.row) (take l.number-index l.numbers) ≡ false
