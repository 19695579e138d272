use Rattle.std.proofs.Common.{◌≡◌, ◌+◌, drop}
use Rattle.yaml_groups.specs.Cuts.{line_len}
use Rattle.yaml_groups.proofs.token.line_len.Given as goal

abbrev pub invariant-loop-at : goal.invariant-loop-at
invariant-loop-at l = l.at + line_len (drop l.at l.chars) ≡ line_len l.chars
