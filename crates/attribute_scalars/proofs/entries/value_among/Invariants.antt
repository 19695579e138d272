use Rattle.std.proofs.Common.{◌≡◌, drop, map}
use Rattle.tree_base.specs.Entries.{value_at}
use Rattle.attribute_scalars.specs.Views.{seen_entry}
use Rattle.attribute_scalars.proofs.entries.value_among.Given as goal

abbrev pub invariant-loop-entry : goal.invariant-loop-entry
invariant-loop-entry l =
    value_at (map seen_entry (drop l.entry-index l.entries)) l.key ≡ value_at (map seen_entry l.entries) l.key
