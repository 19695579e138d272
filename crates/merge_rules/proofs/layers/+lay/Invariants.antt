use Rattle.std.proofs.Common.{◌≡◌, map, drop}
use Rattle.std.specs.List.{zip}
use Rattle.merge_rules.specs.Overlay.{entries_over, items_joined, laid}
use Rattle.merge_rules.specs.Marks.{AreNotedBy}
use Rattle.merge_tables.specs.Spots.{rules_of}
use Rattle.merge_rules.proofs.layers.+lay.Given as goal

-- the entries that are left make of what is there what all make of the base
abbrev pub invariant-lay_entries-loop-at : goal.invariant-lay_entries-loop-at
invariant-lay_entries-loop-at l =
    entries_over (rules_of l.spot) (drop l.at (zip l.keys (map laid l.values))) l.all ≡ entries_over (rules_of l.spot) (zip l.keys (map laid l.values)) l.initial.all

-- and so do the items that are left, of which those before are noted
abbrev pub invariant-lay_items-loop-item : goal.invariant-lay_items-loop-item
invariant-lay_items-loop-item l =
    (items_joined l.joining (drop l.item-index (map laid l.items)) l.all ≡ items_joined l.joining (map laid l.items) l.initial.all)
    × AreNotedBy l.joining l.firsts l.all
