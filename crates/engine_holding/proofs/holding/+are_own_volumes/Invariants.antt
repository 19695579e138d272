-- Each call has a shorter slice.
use Rattle.std.proofs.Common.{length}
use Rattle.engine_holding.proofs.holding.+are_own_volumes.Given as goal

abbrev pub decreases-are_own_volumes : goal.decreases-are_own_volumes
decreases-are_own_volumes l = length l.names.now
