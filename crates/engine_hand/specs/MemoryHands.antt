-- What a hand in memory shows of itself.
use Rattle.std.specs.Prelude.{ℕ, List}
use Rattle.engine_types.specs.declared.Exchange.{Exchange}
use Rattle.memory_engine.specs.declared.state.MemoryEngine.{MemoryEngine}
use Rattle.outside_api.specs.Clock.{Clock}
use Rattle.outside_files.specs.Counts.{one_more}
use Rattle.engine_hand.specs.Fates.{fate_of}
use Rattle.outside_api.specs.ClockCounts.{counts_of}
use Rattle.engine_hand.specs.declared.fate.Fate.{Fate}
use Rattle.engine_hand.specs.declared.memory_hand.MemoryHand.{MemoryHand}

-- every exchange, in order
abbrev pub log_of : MemoryHand → List Exchange
log_of hand = hand.log.items

-- how many exchanges were lost or not sent
abbrev pub faults_of : MemoryHand → ℕ
faults_of hand = hand.failed

-- what its clock counted
abbrev pub clock_of : MemoryHand → Clock
clock_of hand = counts_of hand.clock.counts

-- the time in milliseconds
abbrev pub time_of : MemoryHand → ℕ
time_of hand = hand.clock.time

-- the fate of the next exchange on an Engine
abbrev pub next_fate : MemoryEngine → Fate
next_fate engine = fate_of engine.faults (one_more engine.made)
