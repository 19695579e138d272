use Rattle.std.proofs.Common.{◌∙◌, sym}
use Rattle.merge_rules.proofs.EntryPlaces.{stands_nowhere}
use Rattle.merge_rules.proofs.places.place_noted.Goals as goal

pub returns-in-None-clause-place : goal.returns-in-None-clause-place
returns-in-None-clause-place c =
    stands_nowhere c.args.kind c.args.item.now c.args.items.now (sym c.in_ok-mark.ensures ∙ c.in-None.is)
