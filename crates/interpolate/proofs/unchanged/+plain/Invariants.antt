use Rattle.std.proofs.Common.{◌≡◌, [], map, drop, take}
use Rattle.std.specs.List.{zip}
use Rattle.interpolate.specs.Substitution.{Variables}
use Rattle.interpolate.specs.Walking.{entries_walk, items_walk, tree_walk}
use Rattle.interpolate.proofs.unchanged.+plain.Given as goal

-- the items that are left, behind those that keep their scalars, give what all give
abbrev pub invariant-items_size-loop-item : goal.invariant-items_size-loop-item
invariant-items_size-loop-item l =
    (env : Variables) → items_walk (take l.item-index l.items, l.size) l.item-index (drop l.item-index (map (tree_walk env) l.items)) ≡ items_walk ([], l.initial.size) 0 (map (tree_walk env) l.items)

abbrev pub invariant-values_size-loop-at : goal.invariant-values_size-loop-at
invariant-values_size-loop-at l =
    (env : Variables) → entries_walk (take l.at l.values, l.size) (drop l.at (zip l.keys (map (tree_walk env) l.values))) ≡ entries_walk ([], l.initial.size) (zip l.keys (map (tree_walk env) l.values))
