use Rattle.std.proofs.Common.{◌≡◌, ◌+◌, drop}
use Rattle.yaml_lines.specs.Blanks.{spaces}
use Rattle.yaml_lines.proofs.blank.spaces.Given as goal

abbrev pub invariant-loop-at : goal.invariant-loop-at
invariant-loop-at l = l.at + spaces (drop l.at l.chars) ≡ spaces l.chars
