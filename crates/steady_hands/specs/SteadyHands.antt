-- What a hand shows of itself whose worker is never asked to stop.
use Rattle.std.specs.Prelude.{List}
use Rattle.engine_types.specs.declared.Exchange.{Exchange}
use Rattle.outside_api.specs.Clock.{Clock}
use Rattle.shared_hand.specs.SharedHands as shared
use Rattle.steady_hands.specs.declared.steady_hand.SteadyHand.{SteadyHand}

-- every exchange of this hand, in order
abbrev pub log_of : {R : Type 0} → SteadyHand R → List Exchange
log_of hand = shared.log_of hand.hand

-- what it counted of the clock: it never said that its worker is asked to stop
abbrev pub clock_of : {R : Type 0} → SteadyHand R → Clock
clock_of hand = record (shared.clock_of hand.hand) { yeses = 0 }
