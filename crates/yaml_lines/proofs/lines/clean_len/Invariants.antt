use Rattle.std.proofs.Common.{◌≡◌, ◌+◌, drop}
use Rattle.yaml_lines.specs.Scan.{clean_len}
use Rattle.yaml_lines.proofs.lines.clean_len.Given as goal

abbrev pub invariant-loop-at : goal.invariant-loop-at
invariant-loop-at l = l.at + clean_len (drop l.at l.bytes) ≡ clean_len l.bytes
