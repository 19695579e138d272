use Rattle.std.proofs.Common.{◌≡◌, ◌+◌, drop}
use Rattle.yaml_lines.specs.Blanks.{blanks}
use Rattle.yaml_lines.proofs.blank.blanks.Given as goal

abbrev pub invariant-loop-at : goal.invariant-loop-at
invariant-loop-at l = l.at + blanks (drop l.at l.chars) ≡ blanks l.chars
