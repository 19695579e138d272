use Rattle.std.proofs.Common.{◌≡◌, map, take}
use Rattle.attribute_scalars.specs.Views.{seen_entry}
use Rattle.attribute_scalars.proofs.entries.entries_of.Given as goal

abbrev pub invariant-loop-at : goal.invariant-loop-at
invariant-loop-at l = map seen_entry l.list.items ≡ take l.at l.entries
