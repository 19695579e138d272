use Rattle.std.proofs.Common.{◌≡◌, drop, map}
use Rattle.attribute_scalars.specs.Views.{seen_entry}
use Rattle.attribute_scalars.specs.Walks.{each_entry}
use Rattle.attribute_scalars.proofs.Walks.{Behind}
use Rattle.attribute_rows.specs.Attributes.{attribute_under}
use Rattle.attribute_rows.proofs.attributes.attributes_among.Given as goal

abbrev pub invariant-loop-entry : goal.invariant-loop-entry
invariant-loop-entry l =
    let read = attribute_under (map (λ name. name.now) l.wanted) (map seen_entry l.beside) in
    Behind read l.attributes (drop l.entry-index (map seen_entry l.entries)) ≡ each_entry read (map seen_entry l.entries)
