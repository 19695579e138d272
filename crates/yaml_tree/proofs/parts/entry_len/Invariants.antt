use Rattle.std.proofs.Common.{◌≡◌, ◌+◌, drop}
use Rattle.std.specs.List.{position_or_len}
use Rattle.yaml_tree.specs.Parts.{begins_entry}
use Rattle.yaml_tree.proofs.parts.entry_len.Given as goal

abbrev pub invariant-loop-at : goal.invariant-loop-at
invariant-loop-at l = l.at + position_or_len (begins_entry l.column) (drop l.at l.lines) ≡ position_or_len (begins_entry l.column) l.lines
