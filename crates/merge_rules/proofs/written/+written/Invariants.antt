use Rattle.std.proofs.Common.{◌≡◌, ◌++◌, drop, flat_map, map}
use Rattle.std.specs.List.{zip}
use Rattle.merge_rules.specs.Marks.{entry_written, written}
use Rattle.merge_rules.proofs.written.+written.Given as goal

-- what is written, and what is left to write, are what was there and all
abbrev pub invariant-put_entries-loop-at : goal.invariant-put_entries-loop-at
invariant-put_entries-loop-at l =
    l.mark ++ flat_map entry_written (drop l.at (zip l.keys (map written l.values))) ≡ l.initial.mark ++ flat_map entry_written (zip l.keys (map written l.values))

abbrev pub invariant-put_items-loop-item : goal.invariant-put_items-loop-item
invariant-put_items-loop-item l =
    l.mark ++ flat_map (λ item. item) (drop l.item-index (map written l.items)) ≡ l.initial.mark ++ flat_map (λ item. item) (map written l.items)
