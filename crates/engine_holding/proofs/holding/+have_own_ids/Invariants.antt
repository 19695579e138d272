-- Each call has a shorter slice.
use Rattle.std.proofs.Common.{length}
use Rattle.engine_holding.proofs.holding.+have_own_ids.Given as goal

abbrev pub decreases-have_own_ids : goal.decreases-have_own_ids
decreases-have_own_ids l = length l.rows.now
