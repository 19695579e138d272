use Rattle.std.proofs.Common.{◌≡◌, drop}
use Rattle.yaml_lines.specs.Rows.{place_after}
use Rattle.yaml_lines.proofs.row.place_in.Given as goal

abbrev pub invariant-loop-c : goal.invariant-loop-c
invariant-loop-c l = place_after l.file l.line l.column (drop l.c-index l.c-items) ≡ place_after l.file l.row.number 1 l.c-items
