-- What can be held is sound, and the ids that come are free.
use Rattle.engine_holding.proofs.Held.{holds}
use Rattle.engine_holding.proofs.holding.held.Goals as goal

pub holding-requires : goal.holding-requires
holding-requires c = holds c.args.engine c.requires
