-- Each call has a shorter slice.
use Rattle.std.proofs.Common.{length}
use Rattle.cases_runs.proofs.whole.+services_ascend.Given as goal

abbrev pub decreases-services_ascend : goal.decreases-services_ascend
decreases-services_ascend l = length l.services.now
