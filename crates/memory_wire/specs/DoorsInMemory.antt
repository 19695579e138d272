-- What a door in memory shows.
use Rattle.std.specs.Prelude.{ℕ, List, Some, map}
use Rattle.outside_api.specs.Doors.{IsNewDoor}
use Rattle.outside_api.specs.Pipes.{Talk}
use Rattle.memory_wire.specs.PipesInMemory.{talk_of}
use Rattle.memory_wire.specs.declared.memory_door.MemoryDoor.{MemoryDoor}
use Rattle.memory_wire.specs.declared.memory_pipe.MemoryPipe.{MemoryPipe}

-- the connections that come next
abbrev pub next_callers : MemoryDoor → List MemoryPipe
next_callers door = door.wire.pipes

-- the numbers of the takings that are to fail, from 1
abbrev pub failing_takings : MemoryDoor → List ℕ
failing_takings door = door.wire.failing.fails

-- what was said on the connections that were closed
abbrev pub past_of : MemoryDoor → List Talk
past_of door = map talk_of door.wire.closed.items

-- how many connections were taken
abbrev pub taken_of : MemoryDoor → ℕ
taken_of door = door.wire.dialled

-- how many of those that were closed had a fault
abbrev pub torn_of : MemoryDoor → ℕ
torn_of door = door.torn

-- how often no connection could be taken
abbrev pub faults_of : MemoryDoor → ℕ
faults_of door = door.failed

-- it took no connection yet, and counted nothing
abbrev pub IsNew : MemoryDoor → Type 0
IsNew door = IsNewDoor (Some (past_of door)) (taken_of door) (torn_of door) (faults_of door)
