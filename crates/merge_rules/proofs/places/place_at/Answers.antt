use Rattle.std.proofs.Common.{◌∙◌, sym}
use Rattle.merge_rules.proofs.EntryPlaces.{stands_at, there}
use Rattle.merge_rules.proofs.places.place_at.Goals as goal

pub returns-then-are_one-clause-place : goal.returns-then-are_one-clause-place
returns-then-are_one-clause-place c =
    stands_at c.args.kind c.args.item.now c.args.items.now c.args.first c.args.other.now c.requires.none c.requires.there (sym c.are_one.ensures ∙ c.if-are_one.true)

pub returns-then-are_one-clause-within : goal.returns-then-are_one-clause-within
returns-then-are_one-clause-within c = there c.args.items.now c.args.first c.args.other.now c.requires.there
