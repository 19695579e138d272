-- That a run may begin.
use Rattle.ledger_core.specs.Beginning.{MayBegin}
use Rattle.ledger_start.specs.TwoServices.{limits, plan, seen, shop}

-- a run may begin in which `web` waits for `db` to be healthy
abbrev pub TwoServicesMayBegin : Type 0
TwoServicesMayBegin = MayBegin shop seen plan limits
