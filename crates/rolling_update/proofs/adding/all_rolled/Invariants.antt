use Rattle.std.proofs.Common.{◌≡◌, map, take}
use Rattle.rolling_update.specs.Needs.{awaiting}
use Rattle.rolling_update.proofs.adding.all_rolled.Given as goal

abbrev pub invariant-loop-action : goal.invariant-loop-action
invariant-loop-action l = l.all ≡ map (awaiting l.table) (take l.action-index l.actions)
