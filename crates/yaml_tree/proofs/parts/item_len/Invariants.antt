use Rattle.std.proofs.Common.{◌≡◌, ◌+◌, drop}
use Rattle.std.specs.List.{position_or_len}
use Rattle.yaml_tree.specs.Parts.{begins_item}
use Rattle.yaml_tree.proofs.parts.item_len.Given as goal

abbrev pub invariant-loop-at : goal.invariant-loop-at
invariant-loop-at l = l.at + position_or_len (begins_item l.column) (drop l.at l.lines) ≡ position_or_len (begins_item l.column) l.lines
