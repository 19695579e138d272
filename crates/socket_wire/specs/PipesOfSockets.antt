-- What a connection over a socket counts.
use Rattle.std.specs.Prelude.{ℕ, ◌==◌, List, [], ◌∷◌, Option, None, if◌then◌else◌}
use Rattle.outside_files.specs.Counts.{one_more}
use Rattle.outside_files.specs.declared.sink.SinkAnswer.{SinkAnswer}
use Rattle.outside_api.specs.Pipes.{Talk}
use Rattle.outside_api.specs.declared.pipe.PipeAnswer.{PipeAnswer}
use Rattle.socket_wire.specs.declared.socket_pipe.SocketPipe.{SocketPipe}

-- what is told of what was said on it: nothing
abbrev pub no_talk : Option Talk
no_talk = None

-- how many of its calls failed, or took nothing of a piece that isn't empty
abbrev pub failed_calls : SocketPipe → ℕ
failed_calls pipe = pipe.failed

-- the count of faults after a write: one more where it failed, or took nothing of a piece that isn't empty
abbrev pub faults_after_write : List ℕ → SinkAnswer → ℕ → ℕ
faults_after_write piece SinkAnswer.Failed faults = one_more faults
faults_after_write [] (SinkAnswer.Took n) faults = faults
faults_after_write (byte ∷ piece) (SinkAnswer.Took n) faults = if n == 0 then one_more faults else faults

-- the count of faults after a read: one more where it failed
abbrev pub faults_after_read : PipeAnswer → ℕ → ℕ
faults_after_read PipeAnswer.Failed faults = one_more faults
faults_after_read (PipeAnswer.Got n) faults = faults
