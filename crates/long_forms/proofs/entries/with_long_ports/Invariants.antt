use Rattle.std.proofs.Common.{◌≡◌, ◌++◌, drop, map}
use Rattle.short_forms.specs.PortLaws.{long_port}
use Rattle.long_forms.proofs.entries.with_long_ports.Given as goal

-- what is there and the ports that are left are what was there and all ports
abbrev pub invariant-loop-port : goal.invariant-loop-port
invariant-loop-port l = l.all ++ map long_port (drop l.port-index l.ports) ≡ l.initial.all ++ map long_port l.ports
