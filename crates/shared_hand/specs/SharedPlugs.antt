-- What a plug shows of itself whose hands share an Engine in memory.
use Rattle.std.specs.Prelude.{ℕ, List, Option, Some}
use Rattle.memory_wire.specs.DoorsOfPlugs.{doors_opened_of, paths_of, received_of}
use Rattle.memory_wire.specs.StreamsInMemory.{asked_of, opened_of, talks_of}
use Rattle.outside_api.specs.Doors.{Received}
use Rattle.outside_api.specs.Pipes.{Talk}
use Rattle.outside_api.specs.declared.dial.Dial.{Dial}
use Rattle.outside_api.specs.declared.plug.Target.{Target}
use Rattle.shared_hand.specs.declared.shared_plug.SharedPlug.{SharedPlug}

-- how many hands it makes
abbrev pub hands_of : {R : Type 0} → SharedPlug R → ℕ
hands_of plug = plug.hands

-- the dials that it was asked for, in order
abbrev pub dials_of : {R : Type 0} → SharedPlug R → List Dial
dials_of plug = plug.dials

-- how many hands it made
abbrev pub dialled_of : {R : Type 0} → SharedPlug R → ℕ
dialled_of plug = plug.dialled

-- the Engines to which it was asked for streams, in order
abbrev pub streams_of : {R : Type 0} → SharedPlug R → List Target
streams_of plug = asked_of plug.streams

-- how many streams were opened
abbrev pub opened_by : {R : Type 0} → SharedPlug R → ℕ
opened_by plug = opened_of plug.streams

-- what was said on the streams that were taken back
abbrev pub talks_by : {R : Type 0} → SharedPlug R → Option (List Talk)
talks_by plug = Some (talks_of plug.streams)

-- the paths at which it was asked for doors, in order
abbrev pub doors_of : {R : Type 0} → SharedPlug R → List (List ℕ)
doors_of plug = paths_of plug.doors

-- how many doors were opened
abbrev pub doors_opened_by : {R : Type 0} → SharedPlug R → ℕ
doors_opened_by plug = doors_opened_of plug.doors

-- what the doors that were taken back received
abbrev pub received_by : {R : Type 0} → SharedPlug R → Option (List Received)
received_by plug = Some (received_of plug.doors)

-- how many dials failed, and how often there was no stream or no door
abbrev pub faults_of : {R : Type 0} → SharedPlug R → ℕ
faults_of plug = plug.failed
