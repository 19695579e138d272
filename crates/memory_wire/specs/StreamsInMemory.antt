-- What the streams of a plug in memory show.
use Rattle.std.specs.Prelude.{ℕ, List, map}
use Rattle.outside_api.specs.Pipes.{Talk}
use Rattle.outside_api.specs.declared.plug.Target.{Target}
use Rattle.memory_wire.specs.PipesInMemory.{talk_of}
use Rattle.memory_wire.specs.declared.memory_streams.MemoryStreams.{MemoryStreams}

-- the Engines to which it was asked for streams
abbrev pub asked_of : MemoryStreams → List Target
asked_of streams = streams.asked

-- how many were opened
abbrev pub opened_of : MemoryStreams → ℕ
opened_of streams = streams.wire.dialled

-- what was said on the streams that were taken back
abbrev pub talks_of : MemoryStreams → List Talk
talks_of streams = map talk_of streams.wire.closed.items
