-- What the doors of a plug in memory show.
use Rattle.std.specs.Prelude.{ℕ, List, [], ◌∷◌, Option, Some, None}
use Rattle.outside_api.specs.Doors.{Received}
use Rattle.memory_wire.specs.DoorsInMemory.{past_of, torn_of}
use Rattle.memory_wire.specs.declared.memory_door.MemoryDoor.{MemoryDoor}
use Rattle.memory_wire.specs.declared.memory_doors.MemoryDoors.{MemoryDoors}

-- the paths at which it was asked for doors
abbrev pub paths_of : MemoryDoors → List (List ℕ)
paths_of doors = doors.asked

-- how many were opened
abbrev pub doors_opened_of : MemoryDoors → ℕ
doors_opened_of doors = doors.opened

-- what a door that was taken back received
abbrev pub received_in : Option MemoryDoor → List Received
received_in None = []
received_in (Some door) = record { past = past_of door; torn = torn_of door } ∷ []

-- what the doors that were taken back received
abbrev pub received_of : MemoryDoors → List Received
received_of doors = received_in doors.closed
