-- Each call has a shorter slice.
use Rattle.std.proofs.Common.{length}
use Rattle.cases_runs.proofs.whole.+volumes_ascend.Given as goal

abbrev pub decreases-volumes_ascend : goal.decreases-volumes_ascend
decreases-volumes_ascend l = length l.volumes.now
