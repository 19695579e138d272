-- Each call has a shorter slice.
use Rattle.std.proofs.Common.{length}
use Rattle.engine_holding.proofs.holding.+are_own_networks.Given as goal

abbrev pub decreases-are_own_networks : goal.decreases-are_own_networks
decreases-are_own_networks l = length l.rows.now
