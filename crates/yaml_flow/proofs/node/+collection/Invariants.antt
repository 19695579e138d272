use Rattle.std.proofs.Common.{◌≡◌, ◌≤◌, ◌-◌, ◌+◌, ◌*◌, [], length}
use Rattle.yaml_flow.specs.Flow.{between, flow, flow_entry, flow_item}
use Rattle.yaml_flow.proofs.PieceSteps.{from_place}
use Rattle.yaml_nodes.specs.Mappings.{no_entries}
use Rattle.yaml_flow.proofs.node.+collection.Given as goal

abbrev pub decreases-flow : goal.decreases-flow
decreases-flow l = 8 * l.levels + 2

abbrev pub decreases-sequence : goal.decreases-sequence
decreases-sequence l = 8 * l.levels + 1

abbrev pub decreases-mapping : goal.decreases-mapping
decreases-mapping l = 8 * l.levels + 1

abbrev pub decreases-flow_node : goal.decreases-flow_node
decreases-flow_node l = 8 * l.levels + 3

abbrev pub decreases-flow_value : goal.decreases-flow_value
decreases-flow_value l = 8 * l.levels + 4

abbrev pub decreases-item : goal.decreases-item
decreases-item l = 8 * l.levels + 6

abbrev pub decreases-entry : goal.decreases-entry
decreases-entry l = 8 * l.levels + 5

abbrev pub decreases-item_piece : goal.decreases-item_piece
decreases-item_piece l = 8 * l.levels + 7

abbrev pub decreases-entry_piece : goal.decreases-entry_piece
decreases-entry_piece l = 8 * l.levels + 6

abbrev pub decreases-items : goal.decreases-items
decreases-items l = 8 * l.levels + 8

abbrev pub decreases-entries : goal.decreases-entries
decreases-entries l = 8 * l.levels + 7

abbrev pub decreases-items-loop-items : goal.decreases-items-loop-items
decreases-items-loop-items l = length l.row.chars + 1 - l.start

abbrev pub decreases-entries-loop-entries : goal.decreases-entries-loop-entries
decreases-entries-loop-entries l = length l.row.chars + 1 - l.start

abbrev pub invariant-items-loop-items : goal.invariant-items-loop-items
invariant-items-loop-items l = record {
  within : l.start ≤ length l.row.chars;
  is : from_place (flow_item l.levels (flow l.levels) l.row) l.row l.bracket 93 (l.items, l.progress) l.start ≡ between (flow_item l.levels (flow l.levels) l.row) l.row l.bracket 93 [] l.fn.progress;
}

abbrev pub invariant-entries-loop-entries : goal.invariant-entries-loop-entries
invariant-entries-loop-entries l = record {
  within : l.start ≤ length l.row.chars;
  is : from_place (flow_entry l.levels (flow l.levels) l.row) l.row l.bracket 125 (l.entries, l.progress) l.start ≡ between (flow_entry l.levels (flow l.levels) l.row) l.row l.bracket 125 no_entries l.fn.progress;
}
