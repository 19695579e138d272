-- What a hand shows of itself that shares an Engine in memory.
use Rattle.std.specs.Prelude.{List, Option, None}
use Rattle.engine_types.specs.declared.Engine.{Engine}
use Rattle.engine_types.specs.declared.Exchange.{Exchange}
use Rattle.outside_api.specs.Clock.{Clock}
use Rattle.outside_api.specs.ClockCounts.{counts_of}
use Rattle.shared_hand.specs.declared.shared_hand.SharedHand.{SharedHand}

-- every exchange of this hand, in order
abbrev pub log_of : {R : Type 0} → SharedHand R → List Exchange
log_of hand = hand.log.items

-- what it counted of the clock
abbrev pub clock_of : {R : Type 0} → SharedHand R → Clock
clock_of hand = counts_of hand.counts

-- the Engine that is told: none
abbrev pub no_engine : Option Engine
no_engine = None
