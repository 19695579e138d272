use Rattle.rolling_update.proofs.Awaits.{Waited}
use Rattle.rolling_update.proofs.waiting.all_waited.Given as goal

abbrev pub invariant-loop-at : goal.invariant-loop-at
invariant-loop-at l = Waited l.finder.scene l.waited.items l.row.items l.at
