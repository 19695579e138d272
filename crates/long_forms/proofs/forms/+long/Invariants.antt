use Rattle.std.proofs.Common.{◌≡◌, ◌≤◌, ◌+◌, ◌*◌, ℕ, [], map, take, drop, length, slice_get}
use Rattle.std.specs.List.{zip}
use Rattle.std.specs.Map.{values_of}
use denote.Param.Weighed.{most}
use Rattle.tree_base.specs.declared.Tree.{size-Tree}
use Rattle.long_forms.specs.LongForms.{lengthened, values_long}
use Rattle.merge_tables.specs.Spots.{forms_of}
use Rattle.long_forms.proofs.forms.+long.Given as goal

-- the values that are left are the ones that were given, and make of what is done what all make
abbrev pub invariant-lengthen_values-loop-at : goal.invariant-lengthen_values-loop-at
invariant-lengthen_values-loop-at l = record {
  len : length l.done ≡ length l.fn.values;
  rest : (i : ℕ) → l.at ≤ i → slice_get l.done i ≡ slice_get l.fn.values i;
  value : values_long (forms_of l.spot) (take l.at l.done) (drop l.at (zip l.keys (map lengthened l.fn.values))) ≡ values_long (forms_of l.spot) [] (zip l.keys (map lengthened l.fn.values));
}

-- a mapping goes to its values, each of them to its tree, and this to the mapping below it
abbrev pub decreases-lengthen : goal.decreases-lengthen
decreases-lengthen l = 4 * size-Tree l.tree

abbrev pub decreases-lengthen_value : goal.decreases-lengthen_value
decreases-lengthen_value l = 4 * size-Tree l.value + 1

abbrev pub decreases-lengthen_values : goal.decreases-lengthen_values
decreases-lengthen_values l = 4 * most size-Tree l.values + 2

abbrev pub decreases-lengthen_map : goal.decreases-lengthen_map
decreases-lengthen_map l = 4 * most size-Tree (values_of l.entries) + 3
