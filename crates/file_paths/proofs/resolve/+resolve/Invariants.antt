use Rattle.std.proofs.Common.{◌≡◌, ◌≤◌, ◌+◌, ◌*◌, ℕ, [], map, take, drop, length, slice_get}
use Rattle.std.specs.List.{zip}
use Rattle.file_paths.specs.Paths.{homed}
use Rattle.file_paths.specs.Resolving.{items_homed, resolved_by, values_homed}
use Rattle.file_paths.specs.Spots.{rules_of}
use Rattle.file_paths.proofs.resolve.+resolve.Given as goal

-- the values that are left are the ones that were given, and make of what is done what all make
abbrev pub invariant-resolve_values-loop-at : goal.invariant-resolve_values-loop-at
invariant-resolve_values-loop-at l = record {
  len : length l.done ≡ length l.fn.values;
  rest : (i : ℕ) → l.at ≤ i → slice_get l.done i ≡ slice_get l.fn.values i;
  value : values_homed (rules_of l.spot) (take l.at l.done) (drop l.at (zip l.keys (map (resolved_by (homed l.directory l.env)) l.fn.values)))
      ≡ values_homed (rules_of l.spot) [] (zip l.keys (map (resolved_by (homed l.directory l.env)) l.fn.values));
}

-- and so do the items
abbrev pub invariant-resolve_items-loop-at : goal.invariant-resolve_items-loop-at
invariant-resolve_items-loop-at l = record {
  len : length l.done ≡ length l.fn.items;
  rest : (i : ℕ) → l.at ≤ i → slice_get l.done i ≡ slice_get l.fn.items i;
  value : items_homed (rules_of l.spot) (take l.at l.done) (drop l.at (map (resolved_by (homed l.directory l.env)) l.fn.items))
      ≡ items_homed (rules_of l.spot) [] (map (resolved_by (homed l.directory l.env)) l.fn.items);
}

-- each call goes to a shallower tree, or to the next of these for one as deep
abbrev pub decreases-resolve_map : goal.decreases-resolve_map
decreases-resolve_map l = 4 * goal.size-resolve_map l + 3

abbrev pub decreases-resolve_seq : goal.decreases-resolve_seq
decreases-resolve_seq l = 4 * goal.size-resolve_seq l + 3

abbrev pub decreases-resolve_values : goal.decreases-resolve_values
decreases-resolve_values l = 4 * goal.size-resolve_values l + 2

abbrev pub decreases-resolve_items : goal.decreases-resolve_items
decreases-resolve_items l = 4 * goal.size-resolve_items l + 2

abbrev pub decreases-resolve : goal.decreases-resolve
decreases-resolve l = 4 * goal.size-resolve l + 1

abbrev pub decreases-resolve_parts : goal.decreases-resolve_parts
decreases-resolve_parts l = 4 * goal.size-resolve_parts l
