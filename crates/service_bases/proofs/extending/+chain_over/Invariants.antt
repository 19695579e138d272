use Rattle.std.proofs.Common.{◌*◌, ◌+◌}
use Rattle.service_bases.proofs.extending.+chain_over.Given as goal

abbrev pub decreases-chain_over : goal.decreases-chain_over
decreases-chain_over g l = 2 * l.further + 1

abbrev pub decreases-goes_on : goal.decreases-goes_on
decreases-goes_on g l = 2 * l.further
