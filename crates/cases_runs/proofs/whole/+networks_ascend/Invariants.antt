-- Each call has a shorter slice.
use Rattle.std.proofs.Common.{length}
use Rattle.cases_runs.proofs.whole.+networks_ascend.Given as goal

abbrev pub decreases-networks_ascend : goal.decreases-networks_ascend
decreases-networks_ascend l = length l.networks.now
