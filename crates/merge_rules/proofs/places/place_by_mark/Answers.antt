use Rattle.std.proofs.Common.{sym}
use Rattle.merge_rules.proofs.EntryPlaces.{is_new, none_before}
use Rattle.merge_rules.proofs.places.place_by_mark.Goals as goal

pub returns-in-None-clause-place : goal.returns-in-None-clause-place
returns-in-None-clause-place c =
    is_new c.args.kind c.args.item.now c.args.items.now c.args.firsts.now c.args.mark.now c.requires.noted c.requires.marked (sym c.in-None.ensures)

pub place_from-requires : goal.place_from-requires
place_from-requires c =
    none_before c.args.kind c.args.item.now c.args.items.now c.args.firsts.now c.args.mark.now c.requires.noted c.requires.marked c.in-Some.first.now (sym c.in-Some.ensures)
