-- What a wire in memory shows, and what its calls answer.
use Rattle.std.specs.Prelude.{◌≡◌, ◌⊎◌, ℕ, Bool, List, [], ◌∷◌, IsFalse, IsTrue}
use Rattle.outside_files.specs.Failures.{next_fails}
use Rattle.outside_api.specs.declared.wire.DialAnswer.{DialAnswer}
use Rattle.memory_wire.specs.PipesInMemory.{Begins}
use Rattle.memory_wire.specs.declared.memory_pipe.MemoryPipe.{MemoryPipe}
use Rattle.memory_wire.specs.declared.memory_wire.MemoryWire.{MemoryWire}

-- the connections that it dials next
abbrev pub next_pipes : MemoryWire → List MemoryPipe
next_pipes wire = wire.pipes

-- the connections that were closed
abbrev pub closed_pipes : MemoryWire → List MemoryPipe
closed_pipes wire = wire.closed.items

-- the numbers of the dials that are to fail, from 1
abbrev pub failing_dials : MemoryWire → List ℕ
failing_dials wire = wire.failing.fails

-- whether the next dial is to fail
abbrev pub next_dial_fails : MemoryWire → Bool
next_dial_fails wire = next_fails wire.failing.fails wire.failing.calls

-- what a dial answers, by whether it is to fail: the first of the next connections, which begins anew; a dial fails only where
-- it is to, or where there is none
abbrev pub DialsNext : Bool → List MemoryPipe → List MemoryPipe → DialAnswer MemoryPipe → Type 0
DialsNext fails old new (DialAnswer.Dialled pipe) =
    IsFalse fails × ((first : MemoryPipe) × (old ≡ first ∷ new) × Begins first pipe)
DialsNext fails old new DialAnswer.Failed = (new ≡ old) × (IsTrue fails ⊎ (old ≡ []))
DialsNext fails old new DialAnswer.Memory = new ≡ old
