-- Each call has a shorter slice.
use Rattle.std.proofs.Common.{length}
use Rattle.engine_holding.proofs.holding.+are_own_images.Given as goal

abbrev pub decreases-are_own_images : goal.decreases-are_own_images
decreases-are_own_images l = length l.rows.now
