use Rattle.std.proofs.Common.{◌≡◌, ◌≤◌, ◌+◌, drop, min}
use Rattle.yaml_lines.specs.Blanks.{spaces}
use Rattle.yaml_lines.proofs.lines.indent.Given as goal

abbrev pub invariant-loop-byte : goal.invariant-loop-byte
invariant-loop-byte l = record { fits : l.indent ≤ 4294967295; is : min (l.indent + spaces (drop l.byte-index l.bytes)) 4294967295 ≡ min (spaces l.bytes) 4294967295 }
