use Rattle.std.proofs.Common.{◌≡◌, [], map, drop, take}
use Rattle.std.specs.List.{zip}
use Rattle.file_paths.specs.Resolving.{Home, items_homed, resolved_by, values_homed}
use Rattle.file_paths.specs.Spots.{rules_of}
use Rattle.file_paths.proofs.kept.+keeps.Given as goal

-- the values that are left, behind those that stay, make what all make
abbrev pub invariant-keeps_values-loop-at : goal.invariant-keeps_values-loop-at
invariant-keeps_values-loop-at l =
    (home : Home) → values_homed (rules_of l.spot) (take l.at l.values) (drop l.at (zip l.keys (map (resolved_by home) l.values))) ≡ values_homed (rules_of l.spot) [] (zip l.keys (map (resolved_by home) l.values))

abbrev pub invariant-keeps_items-loop-item : goal.invariant-keeps_items-loop-item
invariant-keeps_items-loop-item l =
    (home : Home) → items_homed (rules_of l.spot) (take l.item-index l.items) (drop l.item-index (map (resolved_by home) l.items)) ≡ items_homed (rules_of l.spot) [] (map (resolved_by home) l.items)
