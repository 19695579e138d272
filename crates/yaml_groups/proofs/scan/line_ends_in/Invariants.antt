use Rattle.std.proofs.Common.{◌≡◌, ◌≤◌, ◌+◌, drop}
use Rattle.yaml_groups.specs.Grouped.{line_ends_in}
use Rattle.yaml_groups.proofs.scan.line_ends_in.Given as goal

abbrev pub invariant-loop-c : goal.invariant-loop-c
invariant-loop-c l = record { few : l.count ≤ l.c-index; is : l.count + line_ends_in (drop l.c-index l.chars) ≡ line_ends_in l.chars }
