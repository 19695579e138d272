use Rattle.std.proofs.Common.{◌≡◌}
use Rattle.socket_wire.proofs.socket_pipe.SocketPipe.read_patiently.Given as goal

-- no call that goes on counts a fault
abbrev pub invariant-loop : goal.invariant-loop
invariant-loop l = l.self.failed ≡ l.initial.self.failed
