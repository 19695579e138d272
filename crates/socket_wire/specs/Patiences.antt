-- For how long a call waits for its Engine.
use Rattle.std.specs.Prelude.{ℕ, ◌+◌, ◌^◌, ◌-◌, ◌||◌, Bool, false, List, Option, None, Some, min, nat_le}
use Rattle.socket_wire.specs.declared.patience.Patience.{Patience}

-- the deadline of the call, in milliseconds of the system's clock, if it has one
abbrev pub deadline_of : Patience → Option ℕ
deadline_of patience = patience.deadline

-- where the file stands whose coming asks to stop, if anywhere
abbrev pub file_of : Patience → Option (List ℕ)
file_of patience = patience.stop_file

-- how long waits go on behind the deadline or the coming of the stop file: sixty seconds, in milliseconds
abbrev pub patience : ℕ
patience = 60000

-- whether that time has gone by since another one, as far as 64 bits tell
abbrev pub has_ended : Option ℕ → ℕ → Bool
has_ended None now = false
has_ended (Some since) now = nat_le (min (since + patience) (2 ^ 64 - 1)) now

-- whether waiting is over: behind the deadline, or behind the first finding of the stop file
abbrev pub is_over : Option ℕ → Option ℕ → ℕ → Bool
is_over deadline stopped now = has_ended deadline now || has_ended stopped now
