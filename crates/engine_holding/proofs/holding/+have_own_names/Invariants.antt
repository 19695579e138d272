-- Each call has a shorter slice.
use Rattle.std.proofs.Common.{length}
use Rattle.engine_holding.proofs.holding.+have_own_names.Given as goal

abbrev pub decreases-have_own_names : goal.decreases-have_own_names
decreases-have_own_names l = length l.rows.now
