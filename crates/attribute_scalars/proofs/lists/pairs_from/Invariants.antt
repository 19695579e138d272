use Rattle.std.proofs.Common.{◌≡◌, map, take}
use Rattle.attribute_scalars.specs.Lists.{pair_of}
use Rattle.attribute_scalars.specs.Views.{seen_entry}
use Rattle.attribute_scalars.proofs.lists.pairs_from.Given as goal

abbrev pub invariant-loop-entry : goal.invariant-loop-entry
invariant-loop-entry l = l.pairs ≡ take l.entry-index (map pair_of (map seen_entry l.entries))
