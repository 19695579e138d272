-- What a door over a socket counts.
use Rattle.std.specs.Prelude.{ℕ}
use Rattle.socket_wire.specs.declared.socket_door.SocketDoor.{SocketDoor}

-- how many connections it took
abbrev pub taken : SocketDoor → ℕ
taken door = door.dialled

-- how many connections with a fault it closed
abbrev pub torn_of : SocketDoor → ℕ
torn_of door = door.torn

-- how often it couldn't take one
abbrev pub failed_takings : SocketDoor → ℕ
failed_takings door = door.failed
