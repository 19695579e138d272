use Rattle.std.proofs.Common.{◌≡◌}
use Rattle.short_forms.specs.Ports.{host_text, port_at, ports_from}
use Rattle.short_forms.proofs.ports.ports_from.Given as goal

-- the ports so far are those of the places so far
abbrev pub invariant-loop-place : goal.invariant-loop-place
invariant-loop-place l = l.ports ≡ ports_from (λ place. port_at l.host_ip l.protocol (host_text l.low place)) l.first l.place
