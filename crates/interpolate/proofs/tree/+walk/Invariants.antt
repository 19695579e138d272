use Rattle.std.proofs.Common.{◌≡◌, [], map, drop, length}
use Rattle.std.specs.List.{zip}
use Rattle.tree_base.specs.Entries.{value_at}
use Rattle.interpolate.specs.Walking.{items_walk, entries_walk, tree_walk}
use Rattle.interpolate.proofs.tree.+walk.Given as goal

abbrev pub invariant-item_values-loop-at : goal.invariant-item_values-loop-at
invariant-item_values-loop-at l =
    items_walk (l.done, l.size) l.at (drop l.at (map (tree_walk (value_at l.env)) l.items)) ≡ items_walk ([], l.initial.size) 0 (map (tree_walk (value_at l.env)) l.items)

abbrev pub invariant-entry_values-loop-at : goal.invariant-entry_values-loop-at
invariant-entry_values-loop-at l = record {
  len : length l.done ≡ l.at;
  value : entries_walk (l.done, l.size) (drop l.at (zip l.keys (map (tree_walk (value_at l.env)) l.values))) ≡ entries_walk ([], l.initial.size) (zip l.keys (map (tree_walk (value_at l.env)) l.values));
}
