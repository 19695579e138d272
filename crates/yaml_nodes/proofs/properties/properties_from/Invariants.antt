use Rattle.std.proofs.Common.{◌≡◌, ◌-◌, length}
use Rattle.yaml_lines.specs.Rows.{text_at}
use Rattle.yaml_nodes.specs.Properties.{properties_from}
use Rattle.yaml_nodes.proofs.properties.properties_from.Given as goal

abbrev pub invariant-loop-chars : goal.invariant-loop-chars
invariant-loop-chars l =
    properties_from l.may_be_marked l.progress l.row l.next l.more 0 (text_at l.row l.next)
    ≡ properties_from l.may_be_marked l.progress l.row l.at l.fn.found 0 (text_at l.row l.at)

abbrev pub decreases-loop-chars : goal.decreases-loop-chars
decreases-loop-chars l = length l.row.chars - l.next
