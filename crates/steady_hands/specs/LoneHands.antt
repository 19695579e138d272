-- What a hand shows of itself that owns an Engine with which nothing goes wrong.
use Rattle.std.specs.Prelude.{ℕ, List}
use Rattle.engine_types.specs.declared.Engine.{Engine}
use Rattle.engine_types.specs.declared.Exchange.{Exchange}
use Rattle.engine_hand.specs.MemoryHands as memory
use Rattle.outside_api.specs.Clock.{Clock}
use Rattle.steady_hands.specs.declared.lone_hand.LoneHand.{LoneHand}

-- every exchange, in order
abbrev pub log_of : LoneHand → List Exchange
log_of hand = memory.log_of hand.hand

-- the Engine that it owns
abbrev pub engine_of : LoneHand → Engine
engine_of hand = hand.hand.engine.engine

-- how many exchanges were lost or not sent
abbrev pub faults_of : LoneHand → ℕ
faults_of hand = memory.faults_of hand.hand

-- what its clock counted
abbrev pub clock_of : LoneHand → Clock
clock_of hand = memory.clock_of hand.hand
