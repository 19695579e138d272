use Rattle.std.proofs.Common.{length}
use Rattle.exchange_log.proofs.Among.{nothing, nothing_in_order}
use Rattle.exchange_log.proofs.exchange_log.ExchangeLog.new.Goals as goal

pub invariant_of-result : goal.invariant_of-result
invariant_of-result c = nothing_in_order c.new-2.result.items (length c.new.result.items) c.new-2.ensures

pub returns : goal.returns
returns c = nothing c.new-2.result.items c.new.result.items c.new-2.ensures c.new.ensures
