use Rattle.std.proofs.Common.{◌≡◌, ◌+◌, drop}
use Rattle.yaml_nodes.specs.Marks.{name_len}
use Rattle.yaml_nodes.proofs.marks.name_len.Given as goal

abbrev pub invariant-loop-at : goal.invariant-loop-at
invariant-loop-at l = l.at + name_len (drop l.at l.chars) ≡ name_len l.chars
