use Rattle.std.proofs.Common.{◌≡◌, [], map, drop, take}
use Rattle.std.specs.List.{zip}
use Rattle.merge_rules.specs.Overlay.{entries_over, items_joined, laid}
use Rattle.merge_tables.specs.Spots.{rules_of}
use Rattle.merge_rules.proofs.alone.+alone.Given as goal

-- the items that are left, laid behind those that were asked, make what all make
abbrev pub invariant-items_stand-loop-at : goal.invariant-items_stand-loop-at
invariant-items_stand-loop-at l =
    items_joined l.joining (drop l.at (map laid l.items)) (take l.at l.items) ≡ items_joined l.joining (map laid l.items) []

abbrev pub invariant-values_stand-loop-at : goal.invariant-values_stand-loop-at
invariant-values_stand-loop-at l =
    entries_over (rules_of l.spot) (drop l.at (zip l.keys (map laid l.values))) (take l.at (zip l.keys l.values)) ≡ entries_over (rules_of l.spot) (zip l.keys (map laid l.values)) []
