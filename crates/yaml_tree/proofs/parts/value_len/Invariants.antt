use Rattle.std.proofs.Common.{◌≡◌, ◌+◌, drop}
use Rattle.yaml_tree.specs.Parts.{value_len}
use Rattle.yaml_tree.proofs.parts.value_len.Given as goal

abbrev pub invariant-loop-at : goal.invariant-loop-at
invariant-loop-at l = l.at + value_len l.column l.stands (drop l.at l.lines) ≡ value_len l.column l.on_key_line l.lines
