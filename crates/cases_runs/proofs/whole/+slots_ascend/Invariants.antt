-- Each call has a shorter slice.
use Rattle.std.proofs.Common.{length}
use Rattle.cases_runs.proofs.whole.+slots_ascend.Given as goal

abbrev pub decreases-slots_ascend : goal.decreases-slots_ascend
decreases-slots_ascend l = length l.slots.now
