-- What holds of a door holds of the one that an answer has.
use Rattle.std.proofs.Common.{◌≡◌, subst}
use Rattle.outside_api.specs.declared.wire.DialAnswer.{DialAnswer}
use Rattle.memory_wire.specs.DoorsInMemory.{IsNew}
use Rattle.memory_wire.specs.declared.memory_door.MemoryDoor.{MemoryDoor}

abbrev gives_new : DialAnswer MemoryDoor → Type 0
gives_new (DialAnswer.Dialled door) = IsNew door
gives_new answer = Unit {0}

pub new_given : (given door : MemoryDoor) → DialAnswer.Dialled given ≡ DialAnswer.Dialled door → IsNew given → IsNew door
new_given given door e h = subst gives_new e h
