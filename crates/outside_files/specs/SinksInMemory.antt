-- What a sink in memory shows, and what a write to it answers.
use Rattle.std.specs.Prelude.{ℕ, ◌-◌, ◌==◌, ◌&&◌, ◌||◌, Bool, List, length, min, nat_lt, if◌then◌else◌}
use Rattle.outside_files.specs.Failures.{next_fails}
use Rattle.outside_files.specs.declared.memory_sink.MemorySink.{MemorySink}
use Rattle.outside_files.specs.declared.sink.SinkAnswer.{SinkAnswer}
use Rattle.outside_files.specs.declared.sink.SinkAnswer.TheVariants.{Took, Failed}

-- what was written
abbrev pub bytes_of : MemorySink → List ℕ
bytes_of sink = sink.bytes.items

-- the room of a sink in bytes, what was written included
abbrev pub room_of : MemorySink → ℕ
room_of sink = sink.room

-- the numbers of the writes that are to fail, from 1
abbrev pub failing_writes : MemorySink → List ℕ
failing_writes sink = sink.failing.fails

-- how many writes were made
abbrev pub writes : MemorySink → ℕ
writes sink = sink.failing.calls

-- how many writes failed, or took nothing of a piece that wasn't empty
abbrev pub failed_writes : MemorySink → ℕ
failed_writes sink = sink.failing.failed

-- whether the next write is to fail
abbrev pub next_write_fails : MemorySink → Bool
next_write_fails sink = next_fails (failing_writes sink) (writes sink)

-- how many bytes of a piece fit
abbrev pub fitting : MemorySink → List ℕ → ℕ
fitting sink piece = min (length piece) (room_of sink - length (bytes_of sink))

-- the answer to a write of a piece: it fails where it is to fail, and else takes what fits
abbrev pub answer_of : MemorySink → List ℕ → SinkAnswer
answer_of sink piece = if next_write_fails sink then Failed else Took (fitting sink piece)

-- whether a write of a piece is counted as a fault: it fails, or the piece isn't empty and nothing of it fits
abbrev pub is_fault : MemorySink → List ℕ → Bool
is_fault sink piece = next_write_fails sink || ((fitting sink piece == 0) && nat_lt 0 (length piece))
