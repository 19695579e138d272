use Rattle.std.proofs.Common.{◌≡◌, drop}
use Rattle.yaml_lines.specs.Scan.{place_after_bytes}
use Rattle.yaml_lines.proofs.lines.place_at.Given as goal

abbrev pub invariant-loop-byte : goal.invariant-loop-byte
invariant-loop-byte l = place_after_bytes l.file l.line l.column (drop l.byte-index l.byte-items) ≡ place_after_bytes l.file 1 1 l.byte-items
