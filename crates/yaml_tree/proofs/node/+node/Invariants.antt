use Rattle.std.proofs.Common.{◌≡◌, ◌≤◌, ◌+◌, ◌*◌, [], length}
use Rattle.yaml_tree.proofs.PartSteps.{parts}
use Rattle.yaml_tree.specs.Blocks.{block_item, block_entry, node}
use Rattle.yaml_tree.specs.Parts.{begins_item, begins_entry, is_item_at, is_entry_at, block, later_parts}
use Rattle.yaml_tree.proofs.node.+node.Given as goal

abbrev pub decreases-below : goal.decreases-below
decreases-below l = 8 * (length l.lines.now + l.levels) + 3

abbrev pub decreases-node : goal.decreases-node
decreases-node l = 8 * (length l.more.now + 1 + l.levels) + 2

abbrev pub decreases-behind_properties : goal.decreases-behind_properties
decreases-behind_properties l = 8 * (length l.more.now + 1 + l.levels)

abbrev pub decreases-block_or_inline : goal.decreases-block_or_inline
decreases-block_or_inline l = 8 * (length l.more.now + 1 + l.levels) + 1

abbrev pub decreases-block_sequence : goal.decreases-block_sequence
decreases-block_sequence l = 8 * (length l.more.now + 1 + l.levels)

abbrev pub decreases-items : goal.decreases-items
decreases-items l = 8 * (length l.more.now + 1 + l.levels) + 5

abbrev pub decreases-push_item : goal.decreases-push_item
decreases-push_item l = 8 * (length l.more.now + 1 + l.levels) + 4

abbrev pub decreases-item_node : goal.decreases-item_node
decreases-item_node l = 8 * (length l.more.now + 1 + l.levels) + 3

abbrev pub decreases-block_mapping : goal.decreases-block_mapping
decreases-block_mapping l = 8 * (length l.more.now + 1 + l.levels)

abbrev pub decreases-entries : goal.decreases-entries
decreases-entries l = 8 * (length l.more.now + 1 + l.levels) + 4

abbrev pub decreases-put_entries : goal.decreases-put_entries
decreases-put_entries l = 8 * (length l.more.now + 1 + l.levels) + 3

abbrev pub decreases-put_entry : goal.decreases-put_entry
decreases-put_entry l = 8 * (length l.more.now + 1 + l.levels) + 2

abbrev pub decreases-block_value : goal.decreases-block_value
decreases-block_value l = 8 * (length l.more.now + 1 + l.levels) + 1

abbrev pub decreases-items-loop-next : goal.decreases-items-loop-next
decreases-items-loop-next l = length l.rest

abbrev pub decreases-put_entries-loop-next : goal.decreases-put_entries-loop-next
decreases-put_entries-loop-next l = length l.rest

abbrev pub invariant-items-loop-next : goal.invariant-items-loop-next
invariant-items-loop-next l = record {
  within : length l.rest ≤ length l.more;
  is : later_parts (is_item_at l.column) (block_item l.column (node l.levels)) (l.items, l.progress) (parts (begins_item l.column) l.rest)
      ≡ block (begins_item l.column) (is_item_at l.column) (block_item l.column (node l.levels)) ([], l.fn.progress) l.line l.more;
}

abbrev pub invariant-put_entries-loop-next : goal.invariant-put_entries-loop-next
invariant-put_entries-loop-next l = record {
  within : length l.rest ≤ length l.more;
  is : later_parts (is_entry_at l.column) (block_entry l.column l.levels (node l.levels)) (l.entries, l.progress) (parts (begins_entry l.column) l.rest)
      ≡ block (begins_entry l.column) (is_entry_at l.column) (block_entry l.column l.levels (node l.levels)) (l.fn.entries, l.fn.progress) l.line l.more;
}
