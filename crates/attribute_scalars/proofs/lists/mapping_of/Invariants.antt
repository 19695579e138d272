use Rattle.std.proofs.Common.{◌≡◌, map, take}
use Rattle.attribute_scalars.specs.Views.{seen_entry}
use Rattle.attribute_scalars.proofs.lists.mapping_of.Given as goal

abbrev pub invariant-loop-entry : goal.invariant-loop-entry
invariant-loop-entry l = l.mapping ≡ take l.entry-index (map seen_entry l.entries)
