-- What a wire over a socket counts, and what it is made for.
use Rattle.std.specs.Prelude.{ℕ, zero, suc, List, Option, None}
use Rattle.std.specs.Arc.{arc_value}
use Rattle.outside_files.specs.Counts.{one_more}
use Rattle.outside_api.specs.Pipes.{Talk}
use Rattle.outside_api.specs.declared.wire.DialAnswer.{DialAnswer}
use Rattle.socket_wire.specs.declared.socket_wire.SocketWire.{SocketWire}
use Rattle.socket_wire.specs.Patiences.{file_of}

-- what is told of what was said on it: nothing
abbrev pub no_past : Option (List Talk)
no_past = None

-- the path of its socket
abbrev pub path_of : SocketWire → List ℕ
path_of wire = wire.path

-- where the file stands whose coming asks the worker to stop, if anywhere
abbrev pub stop_file_of : SocketWire → Option (List ℕ)
stop_file_of wire = file_of (arc_value wire.patience)

-- how many connections it opened
abbrev pub opened : SocketWire → ℕ
opened wire = wire.dialled

-- how many of its dials failed, and how many connections with a fault it closed
abbrev pub failed_dials : SocketWire → ℕ
failed_dials wire = wire.failed

-- the count of faults after a dial: one more where it failed
abbrev pub faults_after_dial : {T : Type 0} → DialAnswer T → ℕ → ℕ
faults_after_dial DialAnswer.Failed faults = one_more faults
faults_after_dial answer faults = faults

-- the count of faults after a connection with so many faults was closed: one more where it has any
abbrev pub faults_after_close : ℕ → ℕ → ℕ
faults_after_close zero faults = faults
faults_after_close (suc n) faults = one_more faults
