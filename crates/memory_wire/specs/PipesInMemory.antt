-- What a connection in memory shows, and what its calls answer.
use Rattle.std.specs.Prelude.{◌≡◌, ℕ, ◌-◌, Bool, List, [], ◌∷◌, length, take, drop, min, max, if◌then◌else◌}
use Rattle.outside_files.specs.Failures.{next_fails}
use Rattle.outside_files.specs.declared.sink.SinkAnswer.{SinkAnswer}
use Rattle.outside_api.specs.Pipes.{Talk}
use Rattle.outside_api.specs.declared.pipe.PipeAnswer.{PipeAnswer}
use Rattle.memory_wire.specs.declared.memory_pipe.MemoryPipe.{MemoryPipe}

-- what was said on it
abbrev pub talk_of : MemoryPipe → Talk
talk_of pipe = record { written = pipe.written.items; read = take pipe.given pipe.gives; ended = pipe.ended }

-- the bytes that it still gives
abbrev pub bytes_left : MemoryPipe → List ℕ
bytes_left pipe = drop pipe.given pipe.gives

-- the bytes that it gives in all
abbrev pub all_gives : MemoryPipe → List ℕ
all_gives pipe = pipe.gives

-- the sizes of all its pieces
abbrev pub all_sizes : MemoryPipe → List ℕ
all_sizes pipe = pipe.sizes

-- the sizes of the pieces that come next
abbrev pub sizes_left : MemoryPipe → List ℕ
sizes_left pipe = drop pipe.pieces pipe.sizes

-- its room in bytes, what was written included
abbrev pub room_of : MemoryPipe → ℕ
room_of pipe = pipe.room

-- the numbers of the calls that are to fail, from 1
abbrev pub failing_calls : MemoryPipe → List ℕ
failing_calls pipe = pipe.failing.fails

-- how many calls were made
abbrev pub calls : MemoryPipe → ℕ
calls pipe = pipe.failing.calls

-- how many calls failed, or took nothing of a piece that wasn't empty
abbrev pub failed_calls : MemoryPipe → ℕ
failed_calls pipe = pipe.failing.failed

-- whether the next call is to fail
abbrev pub next_call_fails : MemoryPipe → Bool
next_call_fails pipe = next_fails (failing_calls pipe) (calls pipe)

-- the first of some sizes, at least 1; when they are used up, any
abbrev pub first_size : List ℕ → ℕ
first_size [] = 18446744073709551615
first_size (size ∷ sizes) = max size 1

-- the size of the next piece
abbrev pub next_size : MemoryPipe → ℕ
next_size pipe = first_size (sizes_left pipe)

-- how many bytes of a piece are taken: so many as the next size, and as fit
abbrev pub fitting : MemoryPipe → List ℕ → ℕ
fitting pipe piece = min (min (length piece) (next_size pipe)) (room_of pipe - length (talk_of pipe).written)

-- the answer to a write of a piece
abbrev pub write_of : MemoryPipe → List ℕ → SinkAnswer
write_of pipe piece = if next_call_fails pipe then SinkAnswer.Failed else SinkAnswer.Took (fitting pipe piece)

-- how many bytes a read into a room of so many gets: so many as the next size, and as there are
abbrev pub getting : MemoryPipe → ℕ → ℕ
getting pipe room = min (min (length (bytes_left pipe)) room) (next_size pipe)

-- the answer to a read into a room of so many bytes
abbrev pub read_of : MemoryPipe → ℕ → PipeAnswer
read_of pipe room = if next_call_fails pipe then PipeAnswer.Failed else PipeAnswer.Got (getting pipe room)

-- a connection begins anew: it gives all its bytes in all its pieces, has the same room, and the same calls of it fail
pub record Begins (old new : MemoryPipe) : Type 0 where
  pub gives : bytes_left new ≡ all_gives old
  pub sizes : sizes_left new ≡ all_sizes old
  pub room : room_of new ≡ room_of old
  pub fails : failing_calls new ≡ failing_calls old
  pub calls : calls new ≡ 0
